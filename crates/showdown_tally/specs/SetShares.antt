-- How runouts that a set of hands wins end for a hand.
use Rattle.std.specs.Prelude.{ℕ, zero, suc, ◌+◌, ◌*◌}
use Rattle.showdown_tally.specs.Settling.{ended}
use Rattle.card_sets.specs.PlayerSets.{hands_below}
use Rattle.showdown_tally.specs.declared.cells.Cell.{Cell}

-- the sum of a function of the numbers below n
abbrev pub sum_below : (ℕ → ℕ) → ℕ → ℕ
sum_below f zero = 0
sum_below f (suc n) = sum_below f n + f n

-- a cell, times a number
abbrev pub cell_times : ℕ → Cell → Cell
cell_times n cell = record { win = cell.win * n; tie = cell.tie * n; lose = cell.lose * n }

-- how a runout ends for a hand that a set of the first hands wins
abbrev pub set_cell : ℕ → ℕ → ℕ → Cell
set_cell count hand set = ended (hands_below set count) hand
