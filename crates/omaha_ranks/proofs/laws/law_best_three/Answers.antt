use Rattle.omaha_ranks.proofs.BestThrees.{threes_decide}
use Rattle.omaha_ranks.proofs.laws.law_best_three.Goals as goal

pub returns : goal.returns
returns c = threes_decide
