use Rattle.std.proofs.Common.{◌≡◌, ℕ, ◌<◌, [], length, get_or}
use Rattle.std.specs.Prelude.{slice_index_or}
use Rattle.card_sets.specs.State.{state_of}
use Rattle.showdown_tally.specs.Settling.{number_of}
use Rattle.board_ranks.specs.BoardWith.{low_number}
use Rattle.board_ranks.specs.HighParts.{plain_number}
use Rattle.board_runouts.proofs.rivers.worths_at.Given as goal

abbrev pub invariant-loop-hand : goal.invariant-loop-hand
invariant-loop-hand l = record {
  highs_size : length l.highs ≡ 10;
  lows_size : length l.lows ≡ 10;
  highs : (h : ℕ) → h < l.hand → get_or l.highs h 0 ≡ plain_number l.known.game (slice_index_or (state_of l.known).hands h []) l.board;
  lows : (h : ℕ) → h < l.hand → number_of l.lows h ≡ low_number l.known.game (slice_index_or (state_of l.known).hands h []) l.board;
}
