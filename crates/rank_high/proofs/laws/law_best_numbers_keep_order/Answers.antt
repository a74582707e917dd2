use Rattle.rank_high.specs.High.{best_high}
use Rattle.rank_high.proofs.ValueOrder.{value_of-order}
use Rattle.rank_high.proofs.BestByChoice.{best_high-IsHighList}
use Rattle.rank_high.proofs.laws.law_best_numbers_keep_order.Goals as goal

pub returns : goal.returns
returns c = λ a b h i. value_of-order (best_high a) (best_high b) (best_high-IsHighList a h) (best_high-IsHighList b i)
