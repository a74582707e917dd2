use Rattle.omaha_ranks.proofs.BestThrees.{low_threes_decide}
use Rattle.omaha_ranks.proofs.laws.law_best_three_lows.Goals as goal

pub returns : goal.returns
returns c = low_threes_decide
