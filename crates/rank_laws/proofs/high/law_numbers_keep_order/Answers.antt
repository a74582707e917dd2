use Rattle.std.proofs.Common.{arith}
use Rattle.rank_high.specs.High.{high}
use Rattle.rank_high.proofs.CallerLemmas.{value_of-order, high-IsHighList}
use Rattle.rank_laws.proofs.high.law_numbers_keep_order.Goals as goal

pub returns : goal.returns
returns c = λ a b h i. value_of-order (high a) (high b) (high-IsHighList a (omega arith)) (high-IsHighList b (omega arith))
