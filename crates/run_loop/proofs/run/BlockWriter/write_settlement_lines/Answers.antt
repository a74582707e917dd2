use Rattle.std.proofs.Common.{◌++◌, arith, sym, ap, ◌∙◌}
use Rattle.hand_audit.specs.SplitHands.{split_of}
use Rattle.hand_cuts.specs.Units.{UnitLines}
use Rattle.line_text.specs.Lines.{lines}
use Rattle.hand_blocks.specs.Settles.{settle_block}
use Rattle.run_loop.specs.Histories.{block_by, hand_block, is_rejected_by, is_rejected_hand, number_text, verdict_of}
use Rattle.run_loop.specs.Units.{unit_lines}
use Rattle.run_loop.specs.declared.block_kinds.Detail.TheVariants.{Settlement}
use Rattle.run_loop.proofs.run.BlockWriter.write_settlement_lines.Goals as goal

pub into_verdict-verdict-requires : goal.into_verdict-verdict-requires
into_verdict-verdict-requires g c = record { numbers = (let few = c.in_ok-hand.ensures.read.few in let n = c.args.unit.now.text.few in omega (arith, few, n)) }

pub returns : goal.returns
unfolding hand_block is_rejected_hand verdict_of
returns g c =
    let all = lines c.args.unit.now.text.bytes.now in
    let unit : UnitLines = unit_lines c.args.unit.now.text in
    let items = c.args.self.now.block.items in
    let verdict = c.into_verdict-verdict.result in
    let read = c.in_ok-hand.ensures.read in
    let known = c.into_verdict-verdict.ensures.audit all read in (
      c.in_ok-write_settlement.ensures.block
          ∙ ap (λ n. items ++ settle_block c.args.unit.now.form n verdict.audit verdict.split c.as_slice-parts.result.now) c.number_text-number.ensures
          ∙ ap (λ split. items ++ settle_block c.args.unit.now.form (number_text all) verdict.audit split c.as_slice-parts.result.now) (c.into_verdict-verdict.ensures.split all read)
          ∙ ap (λ parts. items ++ settle_block c.args.unit.now.form (number_text all) verdict.audit (split_of verdict.audit all) parts) (c.as_slice-parts.ensures.value ∙ c.in_ok-list.ensures c.args.unit.now.text.first all verdict.audit read known)
          ∙ ap (λ v. items ++ block_by c.args.unit.now.form Settlement unit v) (sym known),
      c.is_rejection.ensures ∙ ap is_rejected_by (sym (c.into_verdict-verdict.ensures.audit (lines c.args.unit.now.text.bytes.now) c.in_ok-hand.ensures.read)),
    )
