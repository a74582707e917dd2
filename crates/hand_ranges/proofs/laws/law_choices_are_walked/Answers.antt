use Rattle.hand_ranges.proofs.ApartChoices.{choices_walked}
use Rattle.hand_ranges.proofs.laws.law_choices_are_walked.Goals as goal

pub returns : goal.returns
returns c = choices_walked
