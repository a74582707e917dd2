use Rattle.rank_laws.proofs.HandCategories.{three_lem}
use Rattle.rank_laws.proofs.high.law_three_beats_two_pair.Goals as goal

pub returns : goal.returns
returns c = three_lem
