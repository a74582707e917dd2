-- What the proofs of other crates cite of this one. They cite nothing else of its proofs.

-- The walk from level to level. Levels rise.
pub use Rattle.pot_layers.proofs.LevelWalk.{RisesAbove, levels_rise, pots_hold_all}
-- Who is eligible in the pot of a level.
pub use Rattle.pot_layers.proofs.EligiblePlayers.{eligible}
-- The parts of a side are all of it, and the halves of the two sides all of a pot.
pub use Rattle.pot_layers.proofs.WholeSides.{halves, shares_whole}
-- A list of different seats is an order of those that it lists.
pub use Rattle.pot_layers.proofs.SeatOrders.{orders_its_seats}
