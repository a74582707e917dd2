use Rattle.std.proofs.Common.{◌++◌, sym, ap, ◌∙◌}
use Rattle.run_loop.specs.Histories.{is_rejected_by, is_rejected_hand, verdict_of}
use Rattle.run_loop.specs.Units.{unit_lines}
use Rattle.run_loop.proofs.HandFacts.{verdict_lines}
use Rattle.run_loop.proofs.run.BlockWriter.write_verdict_lines.Goals as goal

pub returns : goal.returns
unfolding is_rejected_hand verdict_of
returns g c = (
  c.in_ok-write_verdict.ensures.block
      ∙ ap (λ block. c.args.self.now.block.items ++ block) (verdict_lines c.args.unit.now.form c.args.asked (unit_lines c.args.unit.now.text) c.in_ok-audit.audit c.in_ok-audit.ensures.verdict),
  c.is_rejection.ensures ∙ ap is_rejected_by (sym c.in_ok-audit.ensures.verdict),
)
