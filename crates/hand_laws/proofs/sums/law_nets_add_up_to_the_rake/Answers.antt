use Rattle.hand_laws.proofs.lemmas.nets.PlayerNets.{accepted_nets}
use Rattle.hand_laws.proofs.sums.law_nets_add_up_to_the_rake.Goals as goal

pub returns : goal.returns
returns c = accepted_nets
