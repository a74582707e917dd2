-- How many cards there are of each rank among the own cards of each hand and a board, and what the hands are worth by these.
use Rattle.std.specs.Prelude.{◌≡◌, ℕ, ◌<◌, List, [], length, slice_get, slice_index, slice_index_or, Some}
use Rattle.card_sets.specs.Cards.{union}
use Rattle.card_sets.specs.State.{State}
use Rattle.card_sets.specs.declared.sets.ByRank.{ByRank}
use Rattle.showdown_tally.specs.Settling.{number_of}
use Rattle.board_ranks.specs.BoardWith.{AreRanksAnd, AreRanksWith, IsBoardWith, low_number}
use Rattle.board_ranks.specs.HighParts.{plain_number}
use Rattle.board_runouts.specs.declared.sides.Worths.{Worths}

-- the list has, by hand, how many cards there are of each rank
abbrev pub AreHandRanks : State → List ℕ → List ByRank → Type 0
AreHandRanks state board list = (h : ℕ) (ranks : ByRank) → h < length state.hands → slice_get list h ≡ Some ranks → AreRanksWith (slice_index_or state.hands h []) board ranks

-- and with one card of a rank more
abbrev pub AreHandRanksAnd : State → List ℕ → ℕ → List ByRank → Type 0
AreHandRanksAnd state board rank list = (h : ℕ) (ranks : ByRank) → h < length state.hands → slice_get list h ≡ Some ranks → AreRanksAnd (slice_index_or state.hands h []) board rank ranks

-- the hands are worth this with first cards of the board and one card of each of two ranks more, whichever full board of such cards it is
pub record AreWorthsWith (state : State) (taken : List ℕ) (low high : ℕ) (worths : Worths) : Type 0 where
  pub highs : (h : ℕ) (full : List ℕ) → h < length state.hands → IsBoardWith (slice_index_or state.hands h []) (union state.board taken) low high full → slice_index worths.highs h ≡ plain_number state.game (slice_index_or state.hands h []) full
  pub lows : (h : ℕ) (full : List ℕ) → h < length state.hands → IsBoardWith (slice_index_or state.hands h []) (union state.board taken) low high full → number_of worths.lows h ≡ low_number state.game (slice_index_or state.hands h []) full
