-- Where a walk over the ranges stands, and what it adds to a tally.
use Rattle.std.specs.Prelude.{◌≡◌, ℕ, ◌+◌, ◌*◌, ◌≤◌, ◌^◌, ◌==◌, nat_lt, if◌then◌else◌, List, [], ◌∷◌, length, slice_index, slice_index_or}
use Rattle.card_sets.specs.declared.games.Side.TheVariants.{High}
use Rattle.runout_ranges.specs.declared.limits.TheConstants.{RUNOUT_MAX}
use Rattle.showdown_tally.specs.Cells.{Sums, cell_at, units_at}
use Rattle.showdown_tally.specs.declared.cells.Cell.{Cell}
use Rattle.range_lines.specs.declared.spot.Weighted.{Weighted}
use Rattle.range_lines.specs.declared.tally.RangeCell.{RangeCell}
use Rattle.range_lines.specs.declared.tally.RangeTally.{RangeTally}
use Rattle.range_lines.specs.Choices.{walked, weight_of, full_cell, full_units, most_choices, runouts_of_choice}
use Rattle.range_lines.specs.Sound.{AreHands, AreRanges, IsSound}
use Rattle.range_lines.specs.RangeSpot.{Ranges}

-- some hands are taken, one from each of the first ranges of a sound spot, and these ranges are left; their runouts are few
pub record IsWalk (spot : Ranges) (ranges : List (List Weighted))
    (taken : List Weighted) : Type 0 where
  pub sound : IsSound spot
  pub hands : AreHands spot.board spot.dead taken
  pub left : AreRanges spot.board spot.dead ranges
  pub all : length taken + length ranges ≡ length spot.ranges
  pub few : most_choices ranges * runouts_of_choice spot ≤ RUNOUT_MAX

-- each range has no more hands than there are
abbrev pub AreFew : List (List Weighted) → Type 0
AreFew [] = Unit {0}
AreFew (range ∷ ranges) = (length range ≤ 1326) × AreFew ranges

-- the numbers of a tally that choices add to
pub data Column : Type 0 where
  Choices : Column
  Weight : Column
  Wins : ℕ → Column
  Ties : ℕ → Column
  Losses : ℕ → Column
  Units : ℕ → Column

abbrev pub none : RangeCell
none = record { win = 0; tie = 0; lose = 0 }

-- how the runouts end for a player
abbrev pub cell_in : RangeTally → ℕ → RangeCell
cell_in tally hand = slice_index_or tally.cells hand none

abbrev pub number_in : RangeTally → Column → ℕ
number_in tally Choices = tally.choices
number_in tally Weight = tally.weight
number_in tally (Wins hand) = (cell_in tally hand).win
number_in tally (Ties hand) = (cell_in tally hand).tie
number_in tally (Losses hand) = (cell_in tally hand).lose
number_in tally (Units hand) = slice_index tally.units hand

-- there are no runouts and no units for a player that there isn't
abbrev pub AreNoneBeyond : ℕ → RangeTally → Type 0
AreNoneBeyond count tally =
    (hand : ℕ) → count ≤ hand → (cell_in tally hand ≡ none) × (slice_index tally.units hand ≡ 0)

-- what a choice adds to each: nothing for a player that there isn't
abbrev pub added_by : Ranges → Column → List Weighted → ℕ
added_by spot Choices choice = 1
added_by spot Weight choice = weight_of choice
added_by spot (Wins hand) choice = if nat_lt hand (length spot.ranges)
    then weight_of choice * (full_cell spot.board spot.dead hand choice).win else 0
added_by spot (Ties hand) choice = if nat_lt hand (length spot.ranges)
    then weight_of choice * (full_cell spot.board spot.dead hand choice).tie else 0
added_by spot (Losses hand) choice = if nat_lt hand (length spot.ranges)
    then weight_of choice * (full_cell spot.board spot.dead hand choice).lose else 0
added_by spot (Units hand) choice = if nat_lt hand (length spot.ranges)
    then weight_of choice * full_units spot.board spot.dead hand choice else 0

-- what a hand's cell and units add, and what those of the hands below n add
abbrev pub hand_adds : ℕ → ℕ → Cell → ℕ → Column → ℕ
hand_adds place weight cell units Choices = 0
hand_adds place weight cell units Weight = 0
hand_adds place weight cell units (Wins hand) = if hand == place then weight * cell.win else 0
hand_adds place weight cell units (Ties hand) = if hand == place then weight * cell.tie else 0
hand_adds place weight cell units (Losses hand) = if hand == place then weight * cell.lose else 0
hand_adds place weight cell units (Units hand) = if hand == place then weight * units else 0

abbrev pub hands_add : ℕ → ℕ → (ℕ → Cell) → (ℕ → ℕ) → Column → ℕ
hands_add n weight cells units Choices = 0
hands_add n weight cells units Weight = 0
hands_add n weight cells units (Wins hand) = if nat_lt hand n then weight * (cells hand).win else 0
hands_add n weight cells units (Ties hand) = if nat_lt hand n then weight * (cells hand).tie else 0
hands_add n weight cells units (Losses hand) =
    if nat_lt hand n then weight * (cells hand).lose else 0
hands_add n weight cells units (Units hand) = if nat_lt hand n then weight * units hand else 0

-- what the count of a choice adds
abbrev pub count_adds : ℕ → ℕ → (ℕ → Cell) → (ℕ → ℕ) → Column → ℕ
count_adds n weight cells units Choices = 1
count_adds n weight cells units Weight = weight
count_adds n weight cells units (Wins hand) = hands_add n weight cells units (Wins hand)
count_adds n weight cells units (Ties hand) = hands_add n weight cells units (Ties hand)
count_adds n weight cells units (Losses hand) = hands_add n weight cells units (Losses hand)
count_adds n weight cells units (Units hand) = hands_add n weight cells units (Units hand)

-- what the count of a choice adds, by its sums, for the hands below n
abbrev pub sums_add : ℕ → ℕ → Sums → Column → ℕ
sums_add n weight sums = hands_add n weight (λ h. cell_at sums 0 h High) (λ h. units_at sums 0 h)

-- and what it adds to the choices and their weight too
abbrev pub choice_adds : ℕ → ℕ → Sums → Column → ℕ
choice_adds n weight sums =
    count_adds n weight (λ h. cell_at sums 0 h High) (λ h. units_at sums 0 h)

-- what a choice adds, and what all choices add that go on from some hands
abbrev pub added : Ranges → List Weighted → Column → ℕ
added spot choice column = added_by spot column choice

abbrev pub all_added : Ranges → List (List Weighted) → List Weighted → Column → ℕ
all_added spot ranges taken column = walked ranges taken (added_by spot column)

-- each number of a tally is what all choices add
abbrev pub IsAllOf : Ranges → RangeTally → Type 0
IsAllOf spot tally = (column : Column) → number_in tally column ≡ all_added spot spot.ranges [] column

-- a cell, and a number of times the runouts of another more
abbrev pub cell_and : RangeCell → ℕ → Cell → RangeCell
cell_and sum weight cell =
    record {
      win = sum.win + weight * cell.win;
      tie = sum.tie + weight * cell.tie;
      lose = sum.lose + weight * cell.lose;
    }

-- each number of the new tally is that of the old one, and so much more
abbrev pub GrowsBy : RangeTally → RangeTally → (Column → ℕ) → Type 0
GrowsBy old new more = (column : Column) → number_in new column ≡ number_in old column + more column

-- no number is greater than the choices of four hands can make it
abbrev pub IsWithin : RangeTally → Type 0
IsWithin tally = (column : Column) → number_in tally column ≤ tally.choices * 2 ^ 96

-- the numbers of a player have room for those of one choice more
pub record HasRoom (tally : RangeTally) (hand : ℕ) : Type 0 where
  pub wins : number_in tally (Wins hand) ≤ 2 ^ 124
  pub ties : number_in tally (Ties hand) ≤ 2 ^ 124
  pub losses : number_in tally (Losses hand) ≤ 2 ^ 124
  pub units : number_in tally (Units hand) ≤ 2 ^ 124
