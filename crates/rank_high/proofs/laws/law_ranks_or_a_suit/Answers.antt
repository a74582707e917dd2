use Rattle.rank_high.proofs.RanksOrSuit.{best_high-IsByRanksOrSuit}
use Rattle.rank_high.proofs.laws.law_ranks_or_a_suit.Goals as goal

pub returns : goal.returns
returns c = best_high-IsByRanksOrSuit
