use Rattle.std.proofs.Common.{[], ◌∷◌, refl, arith}
use Rattle.pot_layers.proofs.CallerLemmas.{orders_its_seats}
use Rattle.call_rows.proofs.rows.pots.the_high_half_is_rounded_up.Goals as goal

pub has_shares-requires-clause-high : goal.has_shares-requires-clause-high
has_shares-requires-clause-high c s = rw s.of-first.ensures (orders_its_seats (1 ∷ []) (refl, tt) (omega arith, omega arith, tt))

pub has_shares-requires-clause-low : goal.has_shares-requires-clause-low
has_shares-requires-clause-low c s = rw s.of-second.ensures (orders_its_seats (2 ∷ []) (refl, tt) (omega arith, omega arith, tt))
