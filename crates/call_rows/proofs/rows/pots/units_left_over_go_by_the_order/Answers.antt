use Rattle.std.proofs.Common.{[], ◌∷◌, refl, arith}
use Rattle.pot_layers.proofs.CallerLemmas.{orders_its_seats}
use Rattle.call_rows.proofs.rows.pots.units_left_over_go_by_the_order.Goals as goal

pub has_shares-requires-clause-high : goal.has_shares-requires-clause-high
has_shares-requires-clause-high c s = rw s.of-second_first.ensures (orders_its_seats (2 ∷ 1 ∷ []) (refl, (refl, tt)) (omega arith, omega arith, (omega arith, omega arith, tt)))
