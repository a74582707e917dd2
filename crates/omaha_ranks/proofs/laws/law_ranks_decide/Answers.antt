use Rattle.omaha_ranks.proofs.TwoParts.{ranks_decide}
use Rattle.omaha_ranks.proofs.laws.law_ranks_decide.Goals as goal

pub returns : goal.returns
returns c = ranks_decide
