use Rattle.hand_laws.proofs.lemmas.pots.DifferentPots.{pots_differ}
use Rattle.hand_laws.proofs.pots.law_no_two_pots_have_the_same_players.Goals as goal

pub returns : goal.returns
returns c = pots_differ
