use Rattle.hand_laws.proofs.lemmas.pots.SharedEvenly.{shares_are_even}
use Rattle.hand_laws.proofs.pots.law_winners_of_a_side_get_the_same_or_one_more.Goals as goal

pub returns : goal.returns
returns c = shares_are_even
