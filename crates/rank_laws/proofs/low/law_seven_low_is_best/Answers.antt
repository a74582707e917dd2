use Rattle.rank_laws.proofs.LowHands.{seven_low_is_best}
use Rattle.rank_laws.proofs.low.law_seven_low_is_best.Goals as goal

pub returns : goal.returns
returns c = seven_low_is_best
