-- Where somebody may have a flush.
use Rattle.std.specs.Prelude.{◌≡◌, ℕ, ◌+◌, ◌*◌, ◌<◌, ◌≤◌, List, [], length, slice_index, slice_index_or, slice_get, Some}
use Rattle.card_sets.specs.State.{State}
use Rattle.rank_high.specs.Parts.{count_of_suit}
use Rattle.board_ranks.specs.HighParts.{flush_part}
use Rattle.board_ranks.specs.Values.{one_of}

-- no hand has more cards for a flush of a suit with the known board
abbrev pub AreMost : State → List ℕ → Type 0
AreMost state most = (h s : ℕ) → h < length state.hands → s < 4 → flush_part state.game (count_of_suit (slice_index_or state.hands h []) s) + count_of_suit state.board s ≤ slice_index most s

-- `counts` cards of each suit and one card of each of two suits aren't five of a suit
abbrev pub IsShort : List ℕ → ℕ → ℕ → Type 0
IsShort counts a b = (s : ℕ) → s < 4 → slice_index counts s + one_of a s + one_of b s ≤ 4

-- two cards for whose suits no suit stands, at 4 times the suit of one and that of the other, make no five of a suit
abbrev pub AreFives : List ℕ → List ℕ → Type 0
AreFives counts suits = (a b suit : ℕ) → a < 4 → b < 4 → slice_get suits (4 * a + b) ≡ Some suit → 4 ≤ suit → IsShort counts a b

-- two cards make nobody five of a suit with first cards of the board
abbrev pub IsShortWith : List ℕ → List ℕ → ℕ → ℕ → Type 0
IsShortWith most taken a b = (s : ℕ) → s < 4 → slice_index most s + count_of_suit taken s + one_of a s + one_of b s ≤ 4

-- nor do two for whose suits no suit stands
abbrev pub AreFivesWith : List ℕ → List ℕ → List ℕ → Type 0
AreFivesWith most taken suits = (a b suit : ℕ) → a < 4 → b < 4 → slice_get suits (4 * a + b) ≡ Some suit → 4 ≤ suit → IsShortWith most taken a b

-- no two cards make anybody five of a suit with first cards of the board
abbrev pub AreAllShort : List ℕ → List ℕ → Type 0
AreAllShort most taken = (a b : ℕ) → a < 4 → b < 4 → IsShortWith most taken a b
