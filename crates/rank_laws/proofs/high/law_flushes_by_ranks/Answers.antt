use Rattle.rank_high.proofs.CallerLemmas.{best_of_suit}
use Rattle.rank_laws.proofs.high.law_flushes_by_ranks.Goals as goal

pub returns : goal.returns
returns c = best_of_suit
