use Rattle.std.proofs.Common.{◌≡◌, ℕ, ◌<◌, [], length, get_or}
use Rattle.std.specs.Prelude.{slice_index_or}
use Rattle.card_sets.specs.State.{state_of}
use Rattle.board_ranks.specs.HighParts.{high_number}
use Rattle.board_runouts.proofs.suited.highs_with.Given as goal

abbrev pub invariant-loop-hand : goal.invariant-loop-hand
invariant-loop-hand l = record {
  size : length l.highs ≡ 10;
  highs : (h : ℕ) → h < l.hand → get_or l.highs h 0 ≡ high_number l.known.game (slice_index_or (state_of l.known).hands h []) l.board;
}
