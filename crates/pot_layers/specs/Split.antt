-- How a pot is split. Source: the rules of the TDA.
use Rattle.std.specs.Prelude.{◌≡◌, ℕ, zero, suc, ◌+◌, ◌-◌, ◌/◌, ◌%◌, ◌==◌, Bool, false, if◌then◌else◌, List, [], ◌∷◌, min, length, sum_by, ◌≤◌}
use Rattle.std.specs.List.{list_any}
use Rattle.card_sets.specs.PlayerSets.{has_player, players_where}
use Rattle.pot_layers.specs.declared.paid.Share.{Share}

-- the units of a seat if each seat of an order gets `each`, and the first `extra` of them get one more
abbrev pub given : ℕ → ℕ → List ℕ → ℕ → ℕ
given each extra [] seat = 0
given each extra (s ∷ order) seat = if s == seat then each + min extra 1 else given each (extra - 1) order seat

-- a side in equal parts to its winners; the units left over go one each in the odd order
abbrev pub side_share : ℕ → List ℕ → ℕ → ℕ
side_share units order seat = given (units / length order) (units % length order) order seat

-- the two halves of some units, the first rounded up and the second down
abbrev pub first_half : ℕ → ℕ
first_half units = (units + 1) / 2

abbrev pub second_half : ℕ → ℕ
second_half units = units / 2

abbrev pub halves : ℕ → List ℕ
halves units = first_half units ∷ second_half units ∷ []

-- the halves of the two sides, the high rounded up; the high gets all if nobody wins the low
abbrev pub high_half : ℕ → ℕ → ℕ
high_half units low = if low == 0 then units else first_half units

abbrev pub low_half : ℕ → ℕ → ℕ
low_half units low = if low == 0 then 0 else second_half units

-- the number of sides that a seat wins
abbrev pub sides_won : ℕ → ℕ → ℕ → ℕ
sides_won high low seat = (if has_player high seat then 1 else 0) + (if has_player low seat then 1 else 0)

-- the parts of the winners among the n seats from one on, rising
abbrev pub shares_from : ℕ → ℕ → ℕ → List ℕ → List ℕ → ℕ → ℕ → List Share
shares_from units high low high_order low_order seat zero = []
shares_from units high low high_order low_order seat (suc n) =
    if sides_won high low seat == 0
    then shares_from units high low high_order low_order (seat + 1) n
    else record {
      seat = seat;
      units = side_share (high_half units low) high_order seat + side_share (low_half units low) low_order seat;
      sides = sides_won high low seat;
    } ∷ shares_from units high low high_order low_order (seat + 1) n

unfoldable pub shares : ℕ → ℕ → ℕ → List ℕ → List ℕ → List Share
shares units high low high_order low_order = shares_from units high low high_order low_order 1 10

-- the seat is in an order
abbrev pub is_among : ℕ → List ℕ → Bool
is_among seat order = list_any (λ s. s == seat) order

-- no seat is in the order twice
abbrev pub Differ : List ℕ → Type 0
Differ [] = Unit {0}
Differ (s ∷ order) = (is_among s order ≡ false) × Differ order

-- all seats of the order are seats of the table
abbrev pub InRange : List ℕ → Type 0
InRange [] = Unit {0}
InRange (s ∷ order) = (1 ≤ s) × (s ≤ 10) × InRange order

-- an order lists the winners of its side, each once
pub record IsOrder (winners : ℕ) (order : List ℕ) : Type 0 where
  pub once : Differ order
  pub seats : InRange order
  pub each : (seat : ℕ) → is_among seat order ≡ has_player winners seat
  -- follows from the others, and is stated for callers
  pub none : order ≡ [] → winners ≡ 0

-- the sum of some parts
abbrev pub given_in_all : List Share → ℕ
given_in_all parts = sum_by (λ part. part.units) parts

-- a list of different seats is an order of its seats
abbrev pub OrdersItsSeats : Type 0
OrdersItsSeats = (order : List ℕ) → Differ order → InRange order → IsOrder (players_where (λ seat. is_among seat order) 11) order
