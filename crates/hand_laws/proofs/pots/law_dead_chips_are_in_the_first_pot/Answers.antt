use Rattle.hand_laws.proofs.lemmas.pots.DeadUnits.{dead_chips_are_first}
use Rattle.hand_laws.proofs.pots.law_dead_chips_are_in_the_first_pot.Goals as goal

pub returns : goal.returns
returns c = dead_chips_are_first
