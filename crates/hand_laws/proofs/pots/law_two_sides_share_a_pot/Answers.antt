use Rattle.hand_laws.proofs.lemmas.pots.TwoSides.{shares_halves}
use Rattle.hand_laws.proofs.pots.law_two_sides_share_a_pot.Goals as goal

pub returns : goal.returns
returns c = shares_halves
