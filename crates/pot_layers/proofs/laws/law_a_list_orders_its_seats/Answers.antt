use Rattle.pot_layers.proofs.SeatOrders.{orders_its_seats}
use Rattle.pot_layers.proofs.laws.law_a_list_orders_its_seats.Goals as goal

pub returns : goal.returns
returns c = orders_its_seats
