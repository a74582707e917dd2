-- What hands are worth as highs, by ranks alone, with flushes, and as a flush.
use Rattle.std.specs.Prelude.{◌≡◌, ℕ, ◌<◌, ◌≤◌, true, List, [], length, slice_index, slice_index_or}
use Rattle.card_sets.specs.Disjoint.{apart}
use Rattle.card_sets.specs.Games.{has_board, own_size}
use Rattle.card_sets.specs.State.{State}
use Rattle.showdown_tally.specs.Showdown.{Showdown, own_after, board_after, eligible_in}
use Rattle.runout_walk.specs.Bests.{best_set, best_value}
use Rattle.board_ranks.specs.HighParts.{high_number, plain_number, suited_number}

-- what a hand is worth as a high after a runout, by ranks alone and with flushes
abbrev pub plain_of : State → List (List ℕ) → ℕ → ℕ
plain_of state runout h = plain_number state.game (own_after state runout h) (board_after state runout)

abbrev pub high_of : State → List (List ℕ) → ℕ → ℕ
high_of state runout h = high_number state.game (own_after state runout h) (board_after state runout)

-- and with cards of one suit on the board, as a flush
abbrev pub flush_of : State → List ℕ → ℕ → ℕ → ℕ
flush_of state cards suit h = suited_number state.game (slice_index_or state.hands h []) cards suit

-- what each hand is worth so
abbrev pub AreFlushesOf : State → List ℕ → ℕ → List ℕ → Type 0
AreFlushesOf state cards suit values = (h : ℕ) → h < length state.hands → slice_index values h ≡ flush_of state cards suit h

-- the best flush of the hands of a pot, and where there is one, whose it is
pub record IsBestFlush (deal : Showdown) (pot : ℕ) (cards : List ℕ) (suit top set : ℕ) : Type 0 where
  pub greatest : top ≡ best_value (flush_of deal.state cards suit) (eligible_in deal pot)
  pub winners : 0 < top → set ≡ best_set (flush_of deal.state cards suit) (eligible_in deal pot)

-- the best flush of each pot
abbrev pub AreBestFlushes : Showdown → List ℕ → ℕ → List ℕ → List ℕ → Type 0
AreBestFlushes deal cards suit tops sets = (pot : ℕ) → pot < length deal.pots → IsBestFlush deal pot cards suit (slice_index tops pot) (slice_index sets pot)

-- a board is full and shares no card with a hand, in a game with a board, and each hand has all its own cards
pub record IsBoardFor (state : State) (board : List ℕ) : Type 0 where
  pub dealt : has_board state.game ≡ true
  pub own : (h : ℕ) → h < length state.hands → length (slice_index_or state.hands h []) ≡ own_size state.game
  pub five : length board ≡ 5
  pub away : (h : ℕ) → h < length state.hands → apart (slice_index_or state.hands h []) board ≡ true

-- each hand of a game with a board has all its own cards, and none of some cards of the board, which are of one suit
pub record AreSuitedFor (state : State) (cards : List ℕ) (suit : ℕ) : Type 0 where
  pub dealt : has_board state.game ≡ true
  pub own : (h : ℕ) → h < length state.hands → length (slice_index_or state.hands h []) ≡ own_size state.game
  pub inside : suit < 4
  pub five : length cards ≤ 5
  pub away : (h : ℕ) → h < length state.hands → apart (slice_index_or state.hands h []) cards ≡ true
