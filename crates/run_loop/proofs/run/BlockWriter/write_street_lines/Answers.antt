use Rattle.std.proofs.Common.{◌++◌, arith, sym, ap, ◌∙◌}
use Rattle.hand_blocks.specs.Streets.{street_blocks}
use Rattle.line_text.specs.Lines.{lines}
use Rattle.run_loop.specs.Histories.{is_rejected_by, is_rejected_hand, verdict_of}
use Rattle.run_loop.specs.Units.{unit_lines}
use Rattle.run_loop.proofs.HandFacts.{street_lines}
use Rattle.run_loop.proofs.run.BlockWriter.write_street_lines.Goals as goal

pub into_verdict-requires : goal.into_verdict-requires
into_verdict-requires g c = record { numbers = (let few = c.in_ok-hand.ensures.read.few in let n = c.args.unit.now.text.few in omega (arith, few, n)) }

pub write_streets-requires-clause-counted : goal.write_streets-requires-clause-counted
write_streets-requires-clause-counted g c =
    let first = c.args.unit.now.text.first in
    let all = lines c.args.unit.now.text.bytes.now in
    let read = c.in_ok-hand.ensures.read in
    let verdict = c.into_verdict.ensures.audit all read in
    c.law_later_streets_are_counted.ensures first all verdict (c.as_slice-states.ensures.value ∙ c.in_ok-later.ensures first all _ read verdict)

pub returns : goal.returns
unfolding is_rejected_hand verdict_of
returns g c =
    let first = c.args.unit.now.text.first in
    let all = lines c.args.unit.now.text.bytes.now in
    let form = c.args.unit.now.form in
    let audit = c.into_verdict.result.audit in
    let read = c.in_ok-hand.ensures.read in
    let verdict = c.into_verdict.ensures.audit all read in
    let states = c.as_slice-states.result.now in (
      c.in_ok-write_streets.ensures
          ∙ ap (λ items. items ++ street_blocks form audit states) c.in_ok-write_verdict.ensures.block
          ∙ street_lines form (unit_lines c.args.unit.now.text) audit states c.args.self.now.block.items verdict (c.as_slice-states.ensures.value ∙ c.in_ok-later.ensures first all audit read verdict),
      c.is_rejection.ensures ∙ ap is_rejected_by (sym (c.into_verdict.ensures.audit (lines c.args.unit.now.text.bytes.now) c.in_ok-hand.ensures.read)),
    )
