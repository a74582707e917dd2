use Rattle.rank_laws.proofs.LowHands.{straights_dont_count}
use Rattle.rank_laws.proofs.low.law_straights_dont_count.Goals as goal

pub returns : goal.returns
returns c = straights_dont_count
