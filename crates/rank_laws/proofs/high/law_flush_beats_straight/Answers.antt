use Rattle.rank_laws.proofs.HandCategories.{flush_lem}
use Rattle.rank_laws.proofs.high.law_flush_beats_straight.Goals as goal

pub returns : goal.returns
returns c = flush_lem
