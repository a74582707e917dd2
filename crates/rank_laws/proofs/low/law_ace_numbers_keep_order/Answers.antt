use Rattle.rank_low.specs.Low.{low_a5}
use Rattle.rank_low.proofs.CallerLemmas.{ace-order}
use Rattle.rank_low.proofs.CallerLemmas.{low_a5-IsAceList, set-FewOfEach}
use Rattle.rank_laws.proofs.low.law_ace_numbers_keep_order.Goals as goal

pub returns : goal.returns
returns c = λ a b p q h i. ace-order (low_a5 a) (low_a5 b) (low_a5-IsAceList a h (set-FewOfEach a p)) (low_a5-IsAceList b i (set-FewOfEach b q))
