-- One runout more among the counts, and counts that are cleared.
use Rattle.std.specs.Prelude.{◌≡◌, ℕ, ◌+◌, ◌==◌, ◌&&◌, if◌then◌else◌, nat_lt, List}
use Rattle.card_sets.specs.Games.{has_side}
use Rattle.card_sets.specs.declared.games.Game.{Game}
use Rattle.card_sets.specs.declared.games.Side.{Side}
use Rattle.card_sets.specs.declared.games.Side.TheVariants.{High, Low}
use Rattle.showdown_tally.specs.Cells.{is_side}
use Rattle.showdown_tally.specs.SideCounts.{count_at, low_mark}

-- the place of a runout among the counts of a side, by the sets that win the high and the low
abbrev pub set_place : Side → ℕ → ℕ → ℕ
set_place High high low = high + low_mark low
set_place Low high low = low

-- the new counts have one more at a place of a side of a pot, where the game has the side
abbrev pub AddsAt : Game → Side → ℕ → ℕ → List (List ℕ) → List (List ℕ) → Type 0
AddsAt game side pot place old new = (p at : ℕ) (s : Side) → count_at new p s at ≡ count_at old p s at + (if is_side s side && has_side s game && (p == pot) && (place == at) then 1 else 0)

-- and one more on each side of a pot that the game has, for the sets that win the high and the low
abbrev pub AddsOne : Game → ℕ → ℕ → ℕ → List (List ℕ) → List (List ℕ) → Type 0
AddsOne game pot high low old new = (p at : ℕ) (s : Side) → count_at new p s at ≡ count_at old p s at + (if has_side s game && (p == pot) && (set_place s high low == at) then 1 else 0)

-- the new counts are 0 on a side of a pot, where the game has the side, and elsewhere the old ones
abbrev pub ClearsAt : Game → Side → ℕ → List (List ℕ) → List (List ℕ) → Type 0
ClearsAt game side pot old new = (p at : ℕ) (s : Side) → count_at new p s at ≡ (if is_side s side && has_side s game && (p == pot) then 0 else count_at old p s at)

-- and 0 on each side that the game has of the first pots, and elsewhere the old ones
abbrev pub ClearsTo : Game → ℕ → List (List ℕ) → List (List ℕ) → Type 0
ClearsTo game pots old new = (p at : ℕ) (s : Side) → count_at new p s at ≡ (if has_side s game && nat_lt p pots then 0 else count_at old p s at)
