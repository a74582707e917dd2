use Rattle.std.proofs.Common.{◌≡◌, ℕ, ◌<◌, [], length, get_or}
use Rattle.std.specs.Prelude.{slice_index_or}
use Rattle.card_sets.specs.State.{state_of}
use Rattle.board_ranks.specs.HighParts.{suited_number}
use Rattle.board_runouts.proofs.flushes.hand_flushes.Given as goal

abbrev pub invariant-loop-hand : goal.invariant-loop-hand
invariant-loop-hand l = record {
  size : length l.values ≡ 10;
  values : (h : ℕ) → h < l.hand → get_or l.values h 0 ≡ suited_number l.table.known.game (slice_index_or (state_of l.table.known).hands h []) l.part.cards l.part.suit;
}
