use Rattle.text_laws.proofs.TextDigits.{length-last_digits, digits_say}
use Rattle.text_laws.proofs.fractions.law_the_text_says_the_number.Goals as goal

pub returns : goal.returns
returns c = record { places = length-last_digits; number = digits_say }
