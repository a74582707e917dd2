use Rattle.std.proofs.Common.{◌∙◌, ap, sym}
use Rattle.hand_audit.specs.MarkNumbers.{number_of_five}
use Rattle.hand_audit.proofs.lemmas.marks.FiveNumbers.{number_high, number_low}
use Rattle.hand_audit.proofs.marks.number_of_five.Goals as goal

pub returns-in-High : goal.returns-in-High
returns-in-High c = number_high c.args.five _ (c.number.ensures ∙ c.high_of_five.ensures) ∙ ap (λ side. number_of_five side c.args.five) (sym c.in-High.is)

pub returns-in-Low : goal.returns-in-Low
returns-in-Low c = number_low c.args.five _ (c.number-in-Low.ensures ∙ c.ace_of_five.ensures) ∙ ap (λ side. number_of_five side c.args.five) (sym c.in-Low.is)
