use Rattle.std.proofs.Common.{◌≡◌, ℕ, ◌∙◌, ap, sym, Bool, true, false, arith}
use Rattle.std.specs.Prelude.{◌==◌, ◌&&◌, not, nat_lt}
use Rattle.betting_replay.specs.Seats.{count_below}
use Rattle.betting_replay.specs.Turns.{is_contender, has_chips, rivals}
use Rattle.betting_replay.proofs.lemmas.seats.SeatCounts.{one_there}
use Rattle.betting_replay.proofs.replay.Replay.has_rival.Goals as goal

pub returns-then-is_funded : goal.returns-then-is_funded
unfolding rivals
returns-then-is_funded c =
    let f : ℕ → Bool = λ q. not (q == c.args.seat) && is_contender c.args.self.now q && has_chips c.args.self.now q in
    let other : (c.loop-rival.rival == c.args.seat) ≡ false = (let t = c.if-rival-seat.true in grind (arith, t)) in
    let passes : f c.loop-rival.rival ≡ true = rw other (sym c.is_funded.ensures ∙ c.if-is_funded.true) in
    sym (one_there f c.loop-rival.rival 11 passes c.loop-rival-test.true)

pub returns : goal.returns
unfolding rivals
returns c =
    let f : ℕ → Bool = λ q. not (q == c.args.seat) && is_contender c.args.self.now q && has_chips c.args.self.now q in
    let end : 11 ≡ c.loop-rival.rival = (let t = c.loop-rival-test.false in omega (arith, t)) in
    sym (ap (nat_lt 0) (ap (count_below f) end ∙ c.loop-rival.invariant))
