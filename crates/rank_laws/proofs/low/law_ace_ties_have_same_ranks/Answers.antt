use Rattle.rank_laws.proofs.SameRanks.{ace_ties_have_same_ranks}
use Rattle.rank_laws.proofs.low.law_ace_ties_have_same_ranks.Goals as goal

pub returns : goal.returns
returns c = ace_ties_have_same_ranks
