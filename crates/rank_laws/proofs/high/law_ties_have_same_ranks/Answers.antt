use Rattle.rank_laws.proofs.SameRanks.{ties_have_same_ranks}
use Rattle.rank_laws.proofs.high.law_ties_have_same_ranks.Goals as goal

pub returns : goal.returns
returns c = ties_have_same_ranks
