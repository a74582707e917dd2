use Rattle.pot_layers.proofs.EligiblePlayers.{excludes_folded}
use Rattle.pot_layers.proofs.laws.law_a_folded_player_is_eligible_nowhere.Goals as goal

pub returns : goal.returns
returns c = excludes_folded
