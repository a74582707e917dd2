-- Who collects has a seat of the table.
use Rattle.std.proofs.Common.{◌≤◌, List, [], ◌∷◌, ◌++◌}
use Rattle.hand_audit.specs.declared.collections.Collection.{Collection}

-- each collection is that of a seat of the table
abbrev pub AreSeats : List Collection → Type 0
AreSeats [] = Unit {0}
AreSeats (c ∷ all) = (1 ≤ c.seat) × (c.seat ≤ 10) × AreSeats all

pub seats_more : (all more : List Collection) → AreSeats all → AreSeats more → AreSeats (all ++ more)
seats_more [] more a b = b
seats_more (c ∷ all) more a b = (a.0, a.1, seats_more all more a.2 b)
