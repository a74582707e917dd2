-- What keeps the sums of made hands small.
use Rattle.std.specs.Prelude.{ℕ, ◌*◌, ◌^◌, ◌≤◌}
use Rattle.player_totals.specs.declared.made_sums.AllInSums.{AllInSums}

-- sums that a number of hands may give
pub record AreSmall (count : ℕ) (sums : AllInSums) : Type 0 where
  pub runouts : sums.runouts ≤ count * 2 ^ 64
  pub first : sums.first ≤ count * 2 ^ 68
  pub second : sums.second ≤ count * 2 ^ 68
