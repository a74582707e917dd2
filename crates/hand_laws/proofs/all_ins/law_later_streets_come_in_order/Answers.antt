use Rattle.hand_laws.proofs.lemmas.all_ins.LaterOrder.{accepted_in_order}
use Rattle.hand_laws.proofs.all_ins.law_later_streets_come_in_order.Goals as goal

pub returns : goal.returns
returns c = accepted_in_order
