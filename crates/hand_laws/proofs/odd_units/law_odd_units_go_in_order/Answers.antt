use Rattle.hand_laws.proofs.lemmas.odd_units.OddUnits.{odd_units_go_in_order}
use Rattle.hand_laws.proofs.odd_units.law_odd_units_go_in_order.Goals as goal

pub returns : goal.returns
returns c = odd_units_go_in_order
