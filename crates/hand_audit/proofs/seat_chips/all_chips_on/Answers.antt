use Rattle.std.proofs.Common.{◌≡◌, arith}
use Rattle.hand_audit.specs.SeatChips.{chips_on}
use Rattle.hand_audit.proofs.lemmas.seats.SeatLists.{by_seat_is}
use Rattle.hand_audit.proofs.seat_chips.all_chips_on.Goals as goal

pub returns : goal.returns
returns c =
    let end : c.loop-seat.seat ≡ 11 = omega arith in
    by_seat_is (chips_on c.args.replay.now) (record { had = 0; put = 0 }) c.loop-seat.chips c.loop-seat.invariant.size (λ p l. c.loop-seat.invariant.so_far p (omega (arith, l, end)))
