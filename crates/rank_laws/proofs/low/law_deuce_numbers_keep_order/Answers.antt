use Rattle.std.proofs.Common.{arith}
use Rattle.rank_high.proofs.CallerLemmas.{value_of-order}
use Rattle.rank_low.specs.Low.{low_27}
use Rattle.rank_low.proofs.CallerLemmas.{low_27-IsHighList}
use Rattle.rank_laws.proofs.low.law_deuce_numbers_keep_order.Goals as goal

pub returns : goal.returns
returns c = λ a b h i. value_of-order (low_27 a) (low_27 b) (low_27-IsHighList a (omega arith)) (low_27-IsHighList b (omega arith))
