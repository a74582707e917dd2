use Rattle.std.proofs.Common.{◌≡◌, ap, ◌∙◌, length, arith, sym, subst, All, List, map}
use Rattle.betting_replay.specs.declared.seats.SeatState.{SeatState}
use Rattle.betting_replay.specs.Counting.{cleared_seat}
use Rattle.betting_replay.specs.Limits.{ChipsInLimits}
use Rattle.betting_replay.proofs.lemmas.chips.ClearedChips.{limits_cleared}
use Rattle.betting_replay.proofs.lemmas.seats.ChangedFronts.{map_first, map_first-next, map_first-all}
use Rattle.betting_replay.proofs.counting.clear_seats.Goals as goal

pub loop-seat-preserved : goal.loop-seat-preserved
loop-seat-preserved c = map_first-next cleared_seat c.args.seats.now c.loop-seat.seats c.loop-seat.seat-index c.seat-item.result c.loop-seat.invariant c.loop-seat-test.true

pub returns-clause-cleared : goal.returns-clause-cleared
returns-clause-cleared c =
    let end : c.loop-seat.seat-index ≡ length c.args.seats.now = omega arith in
    c.loop-seat.invariant ∙ ap (λ n. map_first cleared_seat n c.args.seats.now) end ∙ map_first-all cleared_seat c.args.seats.now

pub returns-clause-limits : goal.returns-clause-limits
returns-clause-limits c =
    let end : c.loop-seat.seat-index ≡ length c.args.seats.now = omega arith in
    let is : c.loop-seat.seats ≡ map cleared_seat c.args.seats.now = c.loop-seat.invariant ∙ ap (λ n. map_first cleared_seat n c.args.seats.now) end ∙ map_first-all cleared_seat c.args.seats.now in
    let P : List SeatState → Type 0 = λ xs. All ChipsInLimits xs in
    subst P (sym is) (limits_cleared c.args.seats.now c.requires)
