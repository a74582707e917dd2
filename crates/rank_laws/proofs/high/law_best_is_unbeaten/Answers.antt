use Rattle.rank_laws.proofs.UnbeatenFives.{best_high-IsBest}
use Rattle.rank_laws.proofs.high.law_best_is_unbeaten.Goals as goal

pub returns : goal.returns
returns c = best_high-IsBest
