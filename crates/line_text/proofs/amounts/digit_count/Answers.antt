use Rattle.std.proofs.Common.{ap, ◌∙◌}
use Rattle.std.specs.Prelude.{length, unwrap_or}
use Rattle.std.specs.Char.{is_ascii_digit}
use Rattle.line_text.proofs.Digits.{failing_or_end}
use Rattle.line_text.proofs.amounts.digit_count.Goals as goal

pub returns-clause-value : goal.returns-clause-value
returns-clause-value c =
    c.unwrap_or.ensures ∙ ap (λ end. unwrap_or end (length c.args.text.now)) c.digits_end.ensures
    ∙ failing_or_end is_ascii_digit c.args.text.now
