use Rattle.std.proofs.Common.{◌≡◌, arith}
use Rattle.hand_audit.proofs.lemmas.splits.HandNumbers.{ranked}
use Rattle.hand_audit.proofs.worths.side_values.Goals as goal

pub returns : goal.returns
returns c =
    let end : c.loop-seat.seat ≡ 11 = omega arith in
    ranked c.law_values_keep_order.ensures c.args.side c.args.game c.args.board c.args.hands.now c.loop-seat.values c.rising.ensures.set c.requires.full
    (λ p l. c.loop-seat.invariant.sets p (omega (arith, l, end))) (λ p l. c.loop-seat.invariant.so_far p (omega (arith, l, end)))
