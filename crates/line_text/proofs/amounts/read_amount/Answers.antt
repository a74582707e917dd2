use Rattle.std.proofs.Common.{◌≡◌, ◌<◌, None, length, drop, sym, ap, arith}
use Rattle.line_text.specs.Amounts.{counted, written}
use Rattle.line_text.proofs.Digits.{nothing_written}
use Rattle.line_text.proofs.amounts.read_amount.Goals as goal

pub returns-in_default-clause-value : goal.returns-in_default-clause-value
returns-in_default-clause-value c =
    let past : length c.args.bytes.now < c.args.at = omega (arith, c.in_default.ensures.lookup) in
    let none : written (drop c.args.at c.args.bytes.now) ≡ None = nothing_written c.args.bytes.now c.args.at past in
    sym (ap (counted c.args.at c.args.hundredths) none)
