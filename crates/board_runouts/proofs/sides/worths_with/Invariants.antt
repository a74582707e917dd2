use Rattle.std.proofs.Common.{◌≡◌, ℕ, ◌<◌, [], List, length, get_or}
use Rattle.std.specs.Prelude.{slice_index_or}
use Rattle.card_sets.specs.Cards.{union}
use Rattle.card_sets.specs.State.{state_of}
use Rattle.board_ranks.specs.HighParts.{plain_number}
use Rattle.showdown_tally.specs.Settling.{number_of}
use Rattle.board_ranks.specs.BoardWith.{IsBoardWith, low_number}
use Rattle.board_runouts.proofs.sides.worths_with.Given as goal

abbrev pub invariant-loop-hand : goal.invariant-loop-hand
invariant-loop-hand l = record {
  highs_size : length l.worths.highs ≡ 10;
  lows_size : length l.worths.lows ≡ 10;
  highs : (h : ℕ) (full : List ℕ) → h < l.hand → IsBoardWith (slice_index_or (state_of l.start.spot.now.table.known).hands h []) (union (state_of l.start.spot.now.table.known).board l.start.taken) l.low l.high full
      → get_or l.worths.highs h 0 ≡ plain_number l.start.spot.now.table.known.game (slice_index_or (state_of l.start.spot.now.table.known).hands h []) full;
  lows : (h : ℕ) (full : List ℕ) → h < l.hand → IsBoardWith (slice_index_or (state_of l.start.spot.now.table.known).hands h []) (union (state_of l.start.spot.now.table.known).board l.start.taken) l.low l.high full
      → number_of l.worths.lows h ≡ low_number l.start.spot.now.table.known.game (slice_index_or (state_of l.start.spot.now.table.known).hands h []) full;
}
