use Rattle.std.proofs.Common.{Some, None, Ok, refl, ap, ◌∙◌}
use Rattle.hand_audit.specs.Departs.{begins_hand}
use Rattle.hand_cuts.specs.Units.{UnitLines}
use Rattle.hand_cuts.specs.declared.limits.TheConstants.{INPUT_MAX}
use Rattle.hand_cuts.specs.declared.units.CutKind.TheVariants.{Hands}
use Rattle.run_loop.specs.Cutting.{PullsOne}
use Rattle.run_loop.specs.Units.{is_whole}
use Rattle.run_loop.proofs.SumOrder.{sums_few, sums_ordered_ended, sums_ordered_more, sums_ordered_short, sums_ordered_start}
use Rattle.run_loop.proofs.run.Run.add_units.Goals as goal

pub hands-init : goal.hands-init
hands-init g c =
    rw c.requires.start (sums_ordered_start g.S.Source.reads g.H.HandSums.sums_of INPUT_MAX _ c.args.sums.now c.requires.none)

pub next_unit-requires : goal.next_unit-requires
next_unit-requires g c =
    let o = c.hands.invariant in
    λ e. o.cuts.closed_is ∙ ap is_whole e

pub text_of-text-requires : goal.text_of-text-requires
text_of-text-requires g c =
    let o = c.hands.invariant in
    let p : PullsOne g.S.Source.reads INPUT_MAX c.hands.source c.next_unit.new.source Hands c.hands.self.input c.next_unit.new.input o.bytes o.done (Ok (Some c.in-Some.unit)) = rw c.in-Some.is at (c.in-Ok.ensures Hands o.bytes o.done o.cuts) in
    record { unit = (Hands, p.hands.1.unit_is) }

pub add_lines-requires-clause-header : goal.add_lines-requires-clause-header
add_lines-requires-clause-header g c =
    let o = c.hands.invariant in
    let p : PullsOne g.S.Source.reads INPUT_MAX c.hands.source c.next_unit.new.source Hands c.hands.self.input c.next_unit.new.input o.bytes o.done (Ok (Some c.in-Some.unit)) = rw c.in-Some.is at (c.in-Ok.ensures Hands o.bytes o.done o.cuts) in
    ap (λ (u : UnitLines). begins_hand u.lines) c.text_of-text.ensures ∙ p.hands.1.unit_is.begins refl

pub add_lines-requires-clause-few : goal.add_lines-requires-clause-few
add_lines-requires-clause-few g c =
    sums_few g.S.Source.reads g.H.HandSums.sums_of g.H.HandSums.count _ _ c.hands.self.input c.hands.sums g.met.H.HandSums.counted c.hands.invariant

pub hands-smaller : goal.hands-smaller
hands-smaller g c =
    let o = c.hands.invariant in
    let p : PullsOne g.S.Source.reads INPUT_MAX c.hands.source c.next_unit.new.source Hands c.hands.self.input c.next_unit.new.input o.bytes o.done (Ok (Some c.in-Some.unit)) = rw c.in-Some.is at (c.in-Ok.ensures Hands o.bytes o.done o.cuts) in
    p.hands.1.fewer

pub hands-preserved : goal.hands-preserved
hands-preserved g c =
    let o = c.hands.invariant in
    let p : PullsOne g.S.Source.reads INPUT_MAX c.hands.source c.next_unit.new.source Hands c.hands.self.input c.next_unit.new.input o.bytes o.done (Ok (Some c.in-Some.unit)) = rw c.in-Some.is at (c.in-Ok.ensures Hands o.bytes o.done o.cuts) in
    sums_ordered_more g.S.Source.reads g.H.HandSums.sums_of INPUT_MAX _ _ _ c.hands.self.input c.next_unit.new.input c.hands.sums c.add_lines.new.self c.in-Some.unit o p (rw c.text_of-text.ensures at c.in-Ok-add_lines.ensures)

pub returns-in-Err : goal.returns-in-Err
returns-in-Err g c =
    let o = c.hands.invariant in
    sums_ordered_short g.S.Source.reads g.H.HandSums.sums_of INPUT_MAX _ _ _ c.hands.self.input c.next_unit.new.input c.hands.sums _ _ _ _ o (c.in-Err.ensures Hands o.bytes o.done o.cuts)

pub returns-in_default : goal.returns-in_default
returns-in_default g c =
    let o = c.hands.invariant in
    let p : PullsOne g.S.Source.reads INPUT_MAX c.hands.source c.next_unit.new.source Hands c.hands.self.input c.next_unit.new.input o.bytes o.done (Ok None) = rw c.in_default.is at (c.in-Ok.ensures Hands o.bytes o.done o.cuts) in
    sums_ordered_ended g.S.Source.reads g.H.HandSums.sums_of INPUT_MAX _ _ _ c.hands.self.input c.next_unit.new.input c.hands.sums o p

pub returns-in-Err-add_lines : goal.returns-in-Err-add_lines
returns-in-Err-add_lines g c =
    let o = c.hands.invariant in
    let p : PullsOne g.S.Source.reads INPUT_MAX c.hands.source c.next_unit.new.source Hands c.hands.self.input c.next_unit.new.input o.bytes o.done (Ok (Some c.in-Some.unit)) = rw c.in-Some.is at (c.in-Ok.ensures Hands o.bytes o.done o.cuts) in
    sums_ordered_short g.S.Source.reads g.H.HandSums.sums_of INPUT_MAX _ _ _ c.hands.self.input c.next_unit.new.input c.hands.sums _ _ _ _ o p
