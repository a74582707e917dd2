use Rattle.std.proofs.Common.{◌≡◌, ℕ, ◌<◌, [], length}
use Rattle.std.specs.Prelude.{slice_index_or}
use Rattle.card_sets.specs.State.{state_of}
use Rattle.showdown_tally.specs.Laws.{IsFull}
use Rattle.showdown_tally.specs.Showdown.{own_after, board_after}
use Rattle.showdown_tally.proofs.dealing.hands_after.Given as goal

abbrev pub invariant-loop-hand : goal.invariant-loop-hand
invariant-loop-hand l = record {
  size : length l.full ≡ 10;
  so_far : (h : ℕ) → h < l.hand → slice_index_or l.full h [] ≡ own_after (state_of l.known) l.sets h;
  full : (h : ℕ) → h < l.hand → IsFull l.known.game (own_after (state_of l.known) l.sets h) (board_after (state_of l.known) l.sets);
}
