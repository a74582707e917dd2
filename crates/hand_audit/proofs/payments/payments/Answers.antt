use Rattle.std.proofs.Common.{◌≡◌, ◌∙◌, true, false, arith}
use Rattle.hand_audit.specs.PotNames.{counts_from}
use Rattle.hand_audit.specs.Settle.{is_payment}
use Rattle.hand_audit.specs.SettlementAnswers.{payment_by}
use Rattle.hand_audit.proofs.lemmas.splits.PaymentWalk.{got_within, none_more, payment_is, some_more}
use Rattle.hand_audit.proofs.payments.payments.Goals as goal

pub units_at-requires-clause-room : goal.units_at-requires-clause-room
units_at-requires-clause-room c =
    let is = c.got_by_seat-got.ensures c.loop-seat.seat c.loop-seat-test.true in
    let r = c.requires.taken in
    omega (arith, is, r, got_within (counts_from c.args.source) c.loop-seat.seat c.args.all.now)

pub loop-seat-preserved-then-not-is_payment : goal.loop-seat-preserved-then-not-is_payment
loop-seat-preserved-then-not-is_payment c =
    let none : is_payment c.payment-pay.result ≡ false = grind (arith, c.is_payment.ensures, c.if-not-is_payment.true) in
    none_more (payment_by c.args.dues.now (counts_from c.args.source) c.args.all.now) c.loop-seat.seat c.loop-seat.pays.items _ c.payment-pay.result
    (payment_is c.args.dues.now (counts_from c.args.source) c.args.all.now c.loop-seat.seat c.units_at.result c.due.result c.payment-pay.result c.payment-pay.ensures
    (c.units_at.ensures ∙ c.got_by_seat-got.ensures c.loop-seat.seat c.loop-seat-test.true) c.due.ensures)
    none c.loop-seat-test.true c.loop-seat.invariant

pub loop-seat-preserved : goal.loop-seat-preserved
loop-seat-preserved c =
    let some : is_payment c.payment-pay.result ≡ true = grind (arith, c.is_payment.ensures, c.if-not-is_payment.false) in
    some_more (payment_by c.args.dues.now (counts_from c.args.source) c.args.all.now) c.loop-seat.seat c.loop-seat.pays.items c.push.new.self.items _ c.payment-pay.result
    (payment_is c.args.dues.now (counts_from c.args.source) c.args.all.now c.loop-seat.seat c.units_at.result c.due.result c.payment-pay.result c.payment-pay.ensures
    (c.units_at.ensures ∙ c.got_by_seat-got.ensures c.loop-seat.seat c.loop-seat-test.true) c.due.ensures)
    some c.loop-seat-test.true c.in_ok-push.ensures.items c.loop-seat.invariant
