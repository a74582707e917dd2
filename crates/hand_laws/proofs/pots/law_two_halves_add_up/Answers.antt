use Rattle.hand_laws.proofs.lemmas.pots.TwoSides.{are_halves}
use Rattle.hand_laws.proofs.pots.law_two_halves_add_up.Goals as goal

pub returns : goal.returns
returns c = are_halves
