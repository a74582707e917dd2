use Rattle.showdown_tally.proofs.KeptOrder.{best-KeepOrder}
use Rattle.showdown_tally.proofs.laws.law_values_keep_order.Goals as goal

pub returns : goal.returns
returns c = best-KeepOrder
