use Rattle.std.proofs.Common.{◌≡◌, ◌-◌, ◌∙◌, sym, refl, arith}
use Rattle.betting_replay.specs.Turns.{owes}
use Rattle.betting_replay.proofs.lemmas.turns.SeatWalk.{first_from-next, unfunded_owes}
use Rattle.betting_replay.proofs.replay.Replay.any_funded.Goals as goal

pub loop-seat-preserved : goal.loop-seat-preserved
loop-seat-preserved c =
    c.loop-seat.invariant
    ∙ first_from-next (owes c.args.self.now) c.loop-seat.seat c.args.end (unfunded_owes c.args.self.now c.loop-seat.seat (sym c.is_funded.ensures ∙ c.if-is_funded.false)) c.loop-seat-test.true

pub returns : goal.returns
returns c none =
    let gone : c.args.end - c.loop-seat.seat ≡ 0 = (let t = c.loop-seat-test.false in omega (arith, t)) in
    c.loop-seat.invariant ∙ rw gone refl
