use Rattle.std.proofs.Common.{◌≡◌, ℕ, ◌∙◌, ap, sym, Bool, arith}
use Rattle.std.specs.Prelude.{◌&&◌, nat_le, if◌then◌else◌}
use Rattle.betting_replay.specs.Seats.{count_below}
use Rattle.betting_replay.specs.AllIn.{funded_count}
use Rattle.betting_replay.specs.Turns.{is_contender, has_chips}
use Rattle.betting_replay.proofs.lemmas.seats.SeatCounts.{count_past, count_here, not_one, one_at_most}
use Rattle.betting_replay.proofs.replay.Replay.few_funded.Goals as goal

pub loop-seat-preserved-then-not-is_funded : goal.loop-seat-preserved-then-not-is_funded
loop-seat-preserved-then-not-is_funded c =
    count_past (λ p. is_contender c.args.self.now p && has_chips c.args.self.now p) c.loop-seat.seat _ c.loop-seat.invariant (sym c.is_funded.ensures ∙ c.if-not-is_funded.true)

pub returns-then-one : goal.returns-then-one
unfolding funded_count
returns-then-one c =
    sym (not_one (λ p. is_contender c.args.self.now p && has_chips c.args.self.now p) c.loop-seat.seat 11
    (c.loop-seat.invariant ∙ ap (λ (b : Bool). if b then 1 else 0) c.if-one.true) (sym c.is_funded.ensures ∙ c.if-not-is_funded.false) c.loop-seat-test.true)

pub loop-seat-preserved : goal.loop-seat-preserved
loop-seat-preserved c =
    count_here (λ p. is_contender c.args.self.now p && has_chips c.args.self.now p) c.loop-seat.seat 0
    (c.loop-seat.invariant ∙ ap (λ (b : Bool). if b then 1 else 0) c.if-one.false) (sym c.is_funded.ensures ∙ c.if-not-is_funded.false)

pub returns : goal.returns
unfolding funded_count
returns c =
    let f : ℕ → Bool = λ p. is_contender c.args.self.now p && has_chips c.args.self.now p in
    let end : 11 ≡ c.loop-seat.seat = (let t = c.loop-seat-test.false in omega (arith, t)) in
    sym (ap (λ n. nat_le (count_below f n) 1) end ∙ one_at_most f c.loop-seat.one c.loop-seat.seat c.loop-seat.invariant)
