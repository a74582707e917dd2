use Rattle.std.proofs.Common.{◌∙◌, arith}
use Rattle.std.proofs.lemmas.List.{take_all, length-drop}
use Rattle.hand_audit.proofs.lemmas.first_pass.SeatDigits.{zeros_stop}
use Rattle.hand_audit.proofs.first_pass.without_zeros.Goals as goal

pub returns-then-digit-ne48 : goal.returns-then-digit-ne48
returns-then-digit-ne48 c =
    take_all _ _ (omega (arith, length-drop c.loop-first.first c.args.digits.now))
    ∙ zeros_stop c.args.digits.now c.loop-first.first c.loop-first.invariant.left c.loop-first-test.true c.if-digit-ne48.true
