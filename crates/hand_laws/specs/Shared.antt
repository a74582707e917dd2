-- How evenly the winners of a side share it.
use Rattle.std.specs.Prelude.{◌≤◌, ◌<◌, ◌+◌, ℕ, List, length, slice_index}
use Rattle.pot_layers.specs.Split.{side_share, IsOrder}

-- of two places in an order the earlier gets as much as the later, or one unit more
pub record IsEven (units : ℕ) (order : List ℕ) (early late : ℕ) : Type 0 where
  pub not_less : side_share units order (slice_index order late) ≤ side_share units order (slice_index order early)
  pub by_one : side_share units order (slice_index order early) ≤ side_share units order (slice_index order late) + 1

abbrev pub SharesAreEven : Type 0
SharesAreEven = (units winners : ℕ) (order : List ℕ) → IsOrder winners order → (early late : ℕ) → early ≤ late → late < length order
    → IsEven units order early late
