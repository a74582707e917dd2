use Rattle.std.proofs.Common.{◌≡◌, arith}
use Rattle.std.specs.Prelude.{None}
use Rattle.betting_replay.specs.Table.{known_at}
use Rattle.hand_audit.proofs.lemmas.seats.SeatLists.{by_seat_is}
use Rattle.hand_audit.proofs.all_in.cards_on.Goals as goal

pub returns : goal.returns
returns c =
    let end : c.loop-seat.seat ≡ 11 = omega arith in
    by_seat_is (λ p. known_at c.args.replay.now p c.args.street) None c.loop-seat.cards c.loop-seat.invariant.size (λ p l. c.loop-seat.invariant.so_far p (omega (arith, l, end)))
