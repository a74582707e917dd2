use Rattle.hand_laws.proofs.lemmas.pots.LevelPlayers.{reaches_levels}
use Rattle.hand_laws.proofs.pots.law_eligible_players_reach_the_level.Goals as goal

pub returns : goal.returns
returns c = reaches_levels
