use Rattle.rank_low.proofs.CallerLemmas.{ace-order}
use Rattle.rank_laws.proofs.BestLows.{best_eight-IsAceList}
use Rattle.rank_laws.proofs.low.law_best_eight_numbers_keep_order.Goals as goal

pub returns : goal.returns
returns c = λ a b x y p q e f. ace-order x y (best_eight-IsAceList a x p e) (best_eight-IsAceList b y q f)
