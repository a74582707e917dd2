use Rattle.rank_high.proofs.CallerLemmas.{best_high-five}
use Rattle.rank_laws.proofs.high.law_best_of_five.Goals as goal

pub returns : goal.returns
returns c = best_high-five
