use Rattle.std.proofs.Common.{◌≡◌, ℕ, ◌∙◌, ap, sym, Bool, arith}
use Rattle.std.specs.Prelude.{nat_le, if◌then◌else◌}
use Rattle.betting_replay.specs.Seats.{count_below}
use Rattle.betting_replay.specs.Turns.{contender_count, is_contender}
use Rattle.betting_replay.proofs.lemmas.seats.SeatCounts.{count_past, count_here, not_two, two_there}
use Rattle.betting_replay.proofs.replay.Replay.two_contend.Goals as goal

pub loop-seat-preserved-then-not-is_contender : goal.loop-seat-preserved-then-not-is_contender
loop-seat-preserved-then-not-is_contender c =
    count_past (is_contender c.args.self.now) c.loop-seat.seat _ c.loop-seat.invariant (sym c.is_contender.ensures ∙ c.if-not-is_contender.true)

pub returns-then-one : goal.returns-then-one
unfolding contender_count
returns-then-one c =
    sym (two_there (is_contender c.args.self.now) c.loop-seat.seat 11
    (c.loop-seat.invariant ∙ ap (λ (b : Bool). if b then 1 else 0) c.if-one.true) (sym c.is_contender.ensures ∙ c.if-not-is_contender.false) c.loop-seat-test.true)

pub loop-seat-preserved : goal.loop-seat-preserved
loop-seat-preserved c =
    count_here (is_contender c.args.self.now) c.loop-seat.seat 0
    (c.loop-seat.invariant ∙ ap (λ (b : Bool). if b then 1 else 0) c.if-one.false) (sym c.is_contender.ensures ∙ c.if-not-is_contender.false)

pub returns : goal.returns
unfolding contender_count
returns c =
    let f : ℕ → Bool = is_contender c.args.self.now in
    let end : 11 ≡ c.loop-seat.seat = (let t = c.loop-seat-test.false in omega (arith, t)) in
    sym (ap (λ n. nat_le 2 (count_below f n)) end ∙ not_two f c.loop-seat.one c.loop-seat.seat c.loop-seat.invariant)
