-- Hands that are taken, one from each of the first ranges, and their values beside a full board.
use Rattle.std.specs.Prelude.{◌≡◌, ℕ, ◌<◌, List, [], take, length, slice_index_or, Option}
use Rattle.std.specs.Option.{option_map}
use Rattle.card_sets.specs.declared.games.Game.TheVariants.{Holdem}
use Rattle.card_sets.specs.declared.games.Side.TheVariants.{High}
use Rattle.showdown_tally.specs.Numbers.{side_number}
use Rattle.showdown_tally.specs.Settling.{number_of}
use Rattle.showdown_tally.specs.Showdown.{best}
use Rattle.range_lines.specs.declared.spot.Weighted.{Weighted}
use Rattle.hand_ranges.specs.declared.taken.Taken.{Taken}
use Rattle.range_lines.specs.Choices.{hands_in}

-- the hands that are taken
abbrev pub chosen : Taken → List Weighted
chosen taken = take taken.count taken.hands

-- the number of a hand's value beside a full board
abbrev pub number_beside : List ℕ → List ℕ → Option ℕ
number_beside board hand = option_map (side_number High Holdem) (best High Holdem hand board)

-- where the board is full, the numbers are those of the hands' values beside it
abbrev pub AreValues : List ℕ → List Weighted → List (Option ℕ) → Type 0
AreValues board choice values = length board ≡ 5 → (h : ℕ) → h < length choice
    → number_of values h ≡ number_beside board (slice_index_or (hands_in choice) h [])
