use Rattle.rank_high.proofs.CallerLemmas.{ranks_decide}
use Rattle.rank_laws.proofs.high.law_ranks_decide.Goals as goal

pub returns : goal.returns
returns c = ranks_decide
