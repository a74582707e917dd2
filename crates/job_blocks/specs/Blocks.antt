-- The blocks of a listing of runouts.
use Rattle.std.specs.Prelude.{◌≡◌, ◌<◌, ℕ, zero, suc, ◌+◌, ◌-◌, ◌*◌, ◌/◌, List, [], ◌++◌}
use Rattle.std.specs.List.{slice_range}
use Rattle.card_sets.specs.declared.games.Side.{Side}
use Rattle.showdown_tally.specs.Cells.{Sums, cell_at, units_at}
use Rattle.job_blocks.specs.declared.limits.TheConstants.{BLOCK}

-- the members of the block with a number, from 0: as many as a block has, and the rest in the last block
abbrev pub block_of : {X : Type 0} → List X → ℕ → List X
block_of all block = slice_range all (block * BLOCK) (block * BLOCK + BLOCK)

-- the number of blocks of n runouts; the last may be short
abbrev pub blocks_of : ℕ → ℕ
blocks_of runouts = (runouts + (BLOCK - 1)) / BLOCK

-- the first n blocks joined
abbrev pub blocks_below : {X : Type 0} → List X → ℕ → List X
blocks_below all zero = []
blocks_below all (suc block) = blocks_below all block ++ block_of all block

-- the sum of the first n numbers
abbrev pub sum_below : (ℕ → ℕ) → ℕ → ℕ
sum_below number zero = 0
sum_below number (suc n) = sum_below number n + number n

-- the total has the sums of the first n parts
pub record IsTotal (part : ℕ → Sums) (n : ℕ) (total : Sums) : Type 0 where
  pub runouts : total.runouts ≡ sum_below (λ i. (part i).runouts) n
  pub wins : (pot hand : ℕ) (side : Side) → pot < 10 → hand < 10 → (cell_at total pot hand side).win ≡ sum_below (λ i. (cell_at (part i) pot hand side).win) n
  pub ties : (pot hand : ℕ) (side : Side) → pot < 10 → hand < 10 → (cell_at total pot hand side).tie ≡ sum_below (λ i. (cell_at (part i) pot hand side).tie) n
  pub losses : (pot hand : ℕ) (side : Side) → pot < 10 → hand < 10 → (cell_at total pot hand side).lose ≡ sum_below (λ i. (cell_at (part i) pot hand side).lose) n
  pub units : (pot hand : ℕ) → pot < 10 → hand < 10 → units_at total pot hand ≡ sum_below (λ i. units_at (part i) pot hand) n
