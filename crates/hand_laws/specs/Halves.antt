-- What halves are, and what the two sides of a pot get.
use Rattle.std.specs.Prelude.{◌≡◌, ◌≢◌, ◌≤◌, ◌<◌, ◌+◌, ℕ, List, sum_by}
use Rattle.pot_layers.specs.Split.{side_share, first_half, second_half, high_half, low_half, IsOrder}

-- two halves add up, and the first is as much as the second, or one unit more
pub record AreHalves (units : ℕ) : Type 0 where
  pub whole : first_half units + second_half units ≡ units
  pub not_less : second_half units ≤ first_half units
  pub by_one : first_half units ≤ second_half units + 1

abbrev pub HalvesAddUp : Type 0
HalvesAddUp = (units : ℕ) → AreHalves units

-- the two sides get all of a pot; where both have winners the high has as much as the low, or one unit more, and else the high has
-- all; and the winners of a side get all of what it has
pub record SharesHalves (units low : ℕ) (high_order low_order : List ℕ) : Type 0 where
  pub whole : high_half units low + low_half units low ≡ units
  pub not_less : low ≢ 0 → low_half units low ≤ high_half units low
  pub by_one : low ≢ 0 → high_half units low ≤ low_half units low + 1
  pub nobody_low : low ≡ 0 → high_half units low ≡ units
  pub high_side : sum_by (side_share (high_half units low) high_order) high_order ≡ high_half units low
  pub low_side : sum_by (side_share (low_half units low) low_order) low_order ≡ low_half units low

abbrev pub HalvesAreShared : Type 0
HalvesAreShared = (units high low : ℕ) (high_order low_order : List ℕ) → 0 < high → IsOrder high high_order → IsOrder low low_order
    → SharesHalves units low high_order low_order
