use Rattle.rank_laws.proofs.HandCategories.{wheel_lem}
use Rattle.rank_laws.proofs.high.law_wheel_is_lowest.Goals as goal

pub returns : goal.returns
returns c = wheel_lem
