use Rattle.omaha_ranks.proofs.LowRanks.{low_ranks_decide}
use Rattle.omaha_ranks.proofs.laws.law_ranks_decide_lows.Goals as goal

pub returns : goal.returns
returns c = low_ranks_decide
