use Rattle.rank_laws.proofs.LowHands.{five_to_ace_is_ace_high}
use Rattle.rank_laws.proofs.low.law_five_to_ace_is_ace_high.Goals as goal

pub returns : goal.returns
returns c = five_to_ace_is_ace_high
