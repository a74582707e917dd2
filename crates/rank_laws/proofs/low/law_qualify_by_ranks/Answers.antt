use Rattle.rank_laws.proofs.LowHands.{qualify_by_ranks}
use Rattle.rank_laws.proofs.low.law_qualify_by_ranks.Goals as goal

pub returns : goal.returns
returns c = qualify_by_ranks
