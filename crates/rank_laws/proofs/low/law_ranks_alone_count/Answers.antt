use Rattle.rank_laws.proofs.LowHands.{ranks_alone_count}
use Rattle.rank_laws.proofs.low.law_ranks_alone_count.Goals as goal

pub returns : goal.returns
returns c = ranks_alone_count
