use Rattle.std.proofs.Common.{◌++◌, sym, ap, ◌∙◌}
use Rattle.hand_cuts.specs.Units.{UnitLines}
use Rattle.hand_blocks.specs.Results.{results_block}
use Rattle.run_loop.specs.Histories.{block_by, hand_block, is_rejected_by, is_rejected_hand, number_text, verdict_of}
use Rattle.run_loop.specs.Units.{unit_lines}
use Rattle.run_loop.specs.declared.block_kinds.Detail.TheVariants.{Results}
use Rattle.run_loop.proofs.run.BlockWriter.write_result_lines.Goals as goal

pub returns : goal.returns
unfolding hand_block is_rejected_hand verdict_of
returns g c =
    let unit : UnitLines = unit_lines c.args.unit.now.text in
    let items = c.args.self.now.block.items in (
      c.in_ok-write_results.ensures.block
          ∙ ap (λ n. items ++ results_block c.args.unit.now.form n c.in_ok-hand.hand.audit c.in_ok-hand.hand.chips) c.number_text-number.ensures
          ∙ ap (λ chips. items ++ results_block c.args.unit.now.form (number_text unit.lines) c.in_ok-hand.hand.audit chips) c.in_ok-hand.ensures.chips
          ∙ ap (λ v. items ++ block_by c.args.unit.now.form Results unit v) (sym c.in_ok-hand.ensures.verdict),
      c.is_rejection.ensures ∙ ap is_rejected_by (sym c.in_ok-hand.ensures.verdict),
    )
