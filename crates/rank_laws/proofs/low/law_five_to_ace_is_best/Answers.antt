use Rattle.rank_laws.proofs.LowHands.{five_to_ace_is_best}
use Rattle.rank_laws.proofs.low.law_five_to_ace_is_best.Goals as goal

pub returns : goal.returns
returns c = five_to_ace_is_best
