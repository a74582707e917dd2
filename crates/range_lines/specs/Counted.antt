-- What the count of a spot with ranges answers.
use Rattle.std.specs.Prelude.{◌≡◌, ℕ, ◌*◌, ◌^◌, ◌<◌, ◌≤◌, true, false, List, [], ◌∷◌, map, length, slice_index, slice_index_or, Result, Ok, Err}
use Rattle.runout_ranges.specs.declared.limits.TheConstants.{RUNOUT_MAX}
use Rattle.range_lines.specs.declared.spot.Weighted.{Weighted}
use Rattle.range_lines.specs.declared.tally.RangeCell.{RangeCell}
use Rattle.range_lines.specs.declared.tally.RangeTally.{RangeTally}
use Rattle.range_lines.specs.declared.tally.RangeJobFault.{RangeJobFault}
use Rattle.range_lines.specs.declared.tally.RangeJobFault.TheVariants.{AboveLimit, NoChoice}
use Rattle.range_lines.specs.Choices.{choices, over_choices, full_cell, full_units, full_weight, runouts_of_choice, are_above, has_no_choice}
use Rattle.range_lines.specs.RangeSpot.{Ranges}

-- ranges of one hand each
abbrev pub ranges_of_one : List ℕ → List ℕ → List Weighted → Ranges
ranges_of_one board dead choice =
    record { board = board; dead = dead; ranges = map (λ w. w ∷ []) choice }

-- how the runouts of all choices end for a player, and the units that they give him, each as often as its choice counts
abbrev pub wins_of : Ranges → ℕ → ℕ
wins_of spot hand =
    over_choices (λ choice. (full_cell spot.board spot.dead hand choice).win) spot.ranges

abbrev pub ties_of : Ranges → ℕ → ℕ
ties_of spot hand =
    over_choices (λ choice. (full_cell spot.board spot.dead hand choice).tie) spot.ranges

abbrev pub losses_of : Ranges → ℕ → ℕ
losses_of spot hand =
    over_choices (λ choice. (full_cell spot.board spot.dead hand choice).lose) spot.ranges

abbrev pub units_of : Ranges → ℕ → ℕ
units_of spot hand = over_choices (full_units spot.board spot.dead hand) spot.ranges

-- a player's numbers, where each player has one hand, are those of his hand in the spot with these hands
pub record IsSpotOf (board dead : List ℕ) (choice : List Weighted) (hand : ℕ) : Type 0 where
  pub wins : wins_of (ranges_of_one board dead choice) hand ≡ (full_cell board dead hand choice).win
  pub ties : ties_of (ranges_of_one board dead choice) hand ≡ (full_cell board dead hand choice).tie
  pub losses : losses_of (ranges_of_one board dead choice) hand
      ≡ (full_cell board dead hand choice).lose
  pub given : units_of (ranges_of_one board dead choice) hand ≡ full_units board dead hand choice

-- the cell of a player
pub record IsCellOf (spot : Ranges) (hand : ℕ) (cell : RangeCell) : Type 0 where
  pub wins : cell.win ≡ wins_of spot hand
  pub ties : cell.tie ≡ ties_of spot hand
  pub losses : cell.lose ≡ losses_of spot hand

-- the tally of a spot: the choices in which no card is in two hands, the runouts of each, how often they count together, and
-- the cell and the units of each player
pub record IsTallyOf (spot : Ranges) (tally : RangeTally) : Type 0 where
  pub count : tally.choices ≡ length (choices spot.ranges)
  pub each : tally.runouts ≡ runouts_of_choice spot
  pub total : tally.weight ≡ full_weight spot.ranges
  pub ends : (hand : ℕ) (d : RangeCell) → hand < length spot.ranges →
      IsCellOf spot hand (slice_index_or tally.cells hand d)
  pub given : (hand : ℕ) → hand < length spot.ranges →
      slice_index tally.units hand ≡ units_of spot hand

-- the answer for a spot: that it has too many runouts, else that it has no choice, else its tally
abbrev pub IsCountOf : Ranges → Result RangeTally RangeJobFault → Type 0
IsCountOf spot (Err AboveLimit) = are_above RUNOUT_MAX spot ≡ true
IsCountOf spot (Err NoChoice) = (are_above RUNOUT_MAX spot ≡ false) × (has_no_choice spot ≡ true)
IsCountOf spot (Ok tally) =
    (are_above RUNOUT_MAX spot ≡ false) × (has_no_choice spot ≡ false) × IsTallyOf spot tally

-- the numbers of a tally are small enough to be written, and there is a runout
pub record IsSmall (tally : RangeTally) (players : ℕ) : Type 0 where
  pub some : 0 < tally.runouts * tally.weight
  pub all : tally.runouts * tally.weight ≤ 10 ^ 28
  pub wins : (hand : ℕ) (d : RangeCell) → hand < players →
      (slice_index_or tally.cells hand d).win ≤ 10 ^ 28
  pub ties : (hand : ℕ) (d : RangeCell) → hand < players →
      (slice_index_or tally.cells hand d).tie ≤ 10 ^ 28
  pub losses : (hand : ℕ) (d : RangeCell) → hand < players →
      (slice_index_or tally.cells hand d).lose ≤ 10 ^ 28
  pub given : (hand : ℕ) → hand < players → slice_index tally.units hand ≤ 10 ^ 32
