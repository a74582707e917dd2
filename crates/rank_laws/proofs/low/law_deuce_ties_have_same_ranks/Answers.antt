use Rattle.rank_laws.proofs.SameRanks.{deuce_ties_have_same_ranks}
use Rattle.rank_laws.proofs.low.law_deuce_ties_have_same_ranks.Goals as goal

pub returns : goal.returns
returns c = deuce_ties_have_same_ranks
