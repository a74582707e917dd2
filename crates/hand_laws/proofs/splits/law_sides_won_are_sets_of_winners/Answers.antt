use Rattle.hand_laws.proofs.lemmas.splits.SidesWon.{sides_are_sets}
use Rattle.hand_laws.proofs.splits.law_sides_won_are_sets_of_winners.Goals as goal

pub returns : goal.returns
returns c = sides_are_sets
