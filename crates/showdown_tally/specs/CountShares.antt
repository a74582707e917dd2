-- What the hands have of a pot, by how often each set of hands wins each of its sides, with a low and without one.
use Rattle.std.specs.Prelude.{ℕ, ◌+◌, ◌*◌, ◌^◌, ◌≤◌, ◌==◌, ◌&&◌, Bool, true, false, if◌then◌else◌, List, [], nat_lt, slice_index, slice_index_or}
use Rattle.std.specs.Int.{bit_at}
use Rattle.card_sets.specs.Games.{has_side}
use Rattle.card_sets.specs.PlayerSets.{hands_below}
use Rattle.card_sets.specs.declared.games.Game.{Game}
use Rattle.card_sets.specs.declared.games.Side.{Side}
use Rattle.card_sets.specs.declared.games.Side.TheVariants.{High, Low}
use Rattle.showdown_tally.specs.Cells.{cell_plus, no_runout, is_side, side_place}
use Rattle.showdown_tally.specs.SetShares.{cell_times, set_cell, sum_below}
use Rattle.showdown_tally.specs.Settling.{whole_of}
use Rattle.showdown_tally.specs.Showdown.{part_of}
use Rattle.showdown_tally.specs.declared.cells.Cell.{Cell}

-- what runouts are worth by the counts of a side, over the sets below n: one thing where nobody has a low, and another where somebody has
abbrev pub places_sum : List ℕ → (ℕ → ℕ) → (ℕ → ℕ) → ℕ → ℕ
places_sum row without with n = sum_below (λ set. without set * slice_index row set + with set * slice_index row (set + 1024)) n

-- how the runouts end for a hand on a side, by its counts at the sets below n
abbrev pub cell_of_places : List ℕ → ℕ → ℕ → ℕ → Cell
cell_of_places row count hand n = record {
  win = places_sum row (λ set. (set_cell count hand set).win) (λ set. (set_cell count hand set).win) n;
  tie = places_sum row (λ set. (set_cell count hand set).tie) (λ set. (set_cell count hand set).tie) n;
  lose = places_sum row (λ set. (set_cell count hand set).lose) (λ set. (set_cell count hand set).lose) n;
}

-- the units of a hand of a pot, or of half of it, that a set wins
abbrev pub units_of_set : Bool → ℕ → ℕ → ℕ → ℕ
units_of_set halved count hand set = part_of (whole_of halved) (hands_below set count) hand

-- and those of the sets below n: with a low there is half of the pot alone
abbrev pub units_of_places : List ℕ → Bool → ℕ → ℕ → ℕ → ℕ
units_of_places row halved count hand n = places_sum row (units_of_set halved count hand) (units_of_set true count hand) n

-- the cells and units that the hands of a mask below n get of a side of a pot that a set wins a number of times
abbrev pub times_cells : ℕ → Side → ℕ → ℕ → ℕ → ℕ → ℕ → ℕ → ℕ → Side → Cell
times_cells pot side mask count set times n p h s = if (p == pot) && is_side s side && nat_lt h n && (bit_at mask h == 1) then cell_times times (set_cell count h set) else no_runout

abbrev pub times_units : ℕ → ℕ → ℕ → Bool → ℕ → ℕ → ℕ → ℕ → ℕ → ℕ
times_units pot mask count halved set times n p h = if (p == pot) && nat_lt h n && (bit_at mask h == 1) then units_of_set halved count h set * times else 0

-- those that they get by the counts of the side at the sets below n
abbrev pub places_cells : ℕ → Side → ℕ → ℕ → List ℕ → ℕ → ℕ → ℕ → Side → Cell
places_cells pot side mask count row n p h s = if (p == pot) && is_side s side && nat_lt h count && (bit_at mask h == 1) then cell_of_places row count h n else no_runout

abbrev pub places_units : ℕ → ℕ → ℕ → Bool → List ℕ → ℕ → ℕ → ℕ → ℕ
places_units pot mask count halved row n p h = if (p == pot) && nat_lt h count && (bit_at mask h == 1) then units_of_places row halved count h n else 0

-- whether a side is played for half of a pot, low or no low: the low beside a high
abbrev pub is_halved : Game → Side → Bool
is_halved game High = false
is_halved game Low = has_side High game

-- the counts of a side of a pot
abbrev pub row_of : List (List ℕ) → ℕ → Side → List ℕ
row_of rows pot side = slice_index_or rows (2 * pot + side_place side) []

-- the cells and units that the hands get of a side of a pot, which the game may not have
abbrev pub given_cells : Game → List ℕ → List (List ℕ) → ℕ → ℕ → Side → ℕ → ℕ → Side → Cell
given_cells game masks rows count pot side p h s = if has_side side game then places_cells pot side (slice_index_or masks pot 0) count (row_of rows pot side) (2 ^ count) p h s else no_runout

abbrev pub given_units : Game → List ℕ → List (List ℕ) → ℕ → ℕ → Side → ℕ → ℕ → ℕ
given_units game masks rows count pot side p h = if has_side side game then places_units pot (slice_index_or masks pot 0) count (is_halved game side) (row_of rows pot side) (2 ^ count) p h else 0

-- and those of both sides of a pot
abbrev pub pot_given : Game → List ℕ → List (List ℕ) → ℕ → ℕ → ℕ → ℕ → Side → Cell
pot_given game masks rows count pot p h s = cell_plus (given_cells game masks rows count pot High p h s) (given_cells game masks rows count pot Low p h s)

abbrev pub pot_given_units : Game → List ℕ → List (List ℕ) → ℕ → ℕ → ℕ → ℕ → ℕ
pot_given_units game masks rows count pot p h = given_units game masks rows count pot High p h + given_units game masks rows count pot Low p h

-- and of the pots below n
abbrev pub pots_given : Game → List ℕ → List (List ℕ) → ℕ → ℕ → ℕ → ℕ → Side → Cell
pots_given game masks rows count n p h s = if nat_lt p n then pot_given game masks rows count p p h s else no_runout

abbrev pub pots_given_units : Game → List ℕ → List (List ℕ) → ℕ → ℕ → ℕ → ℕ → ℕ
pots_given_units game masks rows count n p h = if nat_lt p n then pot_given_units game masks rows count p p h else 0

-- no number of a cell is above a bound
abbrev pub CellWithin : Cell → ℕ → Type 0
CellWithin cell bound = (cell.win ≤ bound) × (cell.tie ≤ bound) × (cell.lose ≤ bound)
