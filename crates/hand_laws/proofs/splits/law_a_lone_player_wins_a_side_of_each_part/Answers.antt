use Rattle.hand_laws.proofs.lemmas.splits.LonePlayer.{due_all}
use Rattle.hand_laws.proofs.splits.law_a_lone_player_wins_a_side_of_each_part.Goals as goal

pub returns : goal.returns
returns c = due_all
