use Rattle.std.proofs.Common.{ℕ, ◌+◌, ◌-◌, ◌*◌, arith}
use Rattle.std.proofs.lemmas.List.Sums.{fold_more}
use Rattle.line_text.proofs.Digits.{digit_kept}
use Rattle.line_text.proofs.amounts.number_of.Goals as goal

pub loop-digit-preserved : goal.loop-digit-preserved
loop-digit-preserved c =
    let more = fold_more (λ (number : ℕ) (digit : ℕ). number * 10 + (digit - 48)) 0 c.args.digits.now c.loop-digit.digit-index 0 c.loop-digit-test.true in
    grind (arith, digit_kept)
