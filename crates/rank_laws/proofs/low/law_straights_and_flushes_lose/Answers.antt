use Rattle.rank_laws.proofs.LowHands.{straights_and_flushes_lose}
use Rattle.rank_laws.proofs.low.law_straights_and_flushes_lose.Goals as goal

pub returns : goal.returns
returns c = straights_and_flushes_lose
