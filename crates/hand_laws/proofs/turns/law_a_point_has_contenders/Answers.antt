use Rattle.hand_laws.proofs.lemmas.turns.PointContenders.{points}
use Rattle.hand_laws.proofs.turns.law_a_point_has_contenders.Goals as goal

pub returns : goal.returns
returns c = points
