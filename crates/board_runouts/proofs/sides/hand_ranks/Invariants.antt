use Rattle.std.proofs.Common.{◌≡◌, ◌<◌, ℕ, [], Some, length}
use Rattle.std.specs.Prelude.{slice_get, slice_index_or}
use Rattle.card_sets.specs.State.{state_of}
use Rattle.card_sets.specs.declared.sets.ByRank.{ByRank}
use Rattle.board_ranks.specs.BoardWith.{AreRanksWith}
use Rattle.board_runouts.proofs.sides.hand_ranks.Given as goal

abbrev pub invariant-loop-hand : goal.invariant-loop-hand
invariant-loop-hand l = record {
  size : length l.ranks ≡ 10;
  right : (h : ℕ) (ranks : ByRank) → h < l.hand → slice_get l.ranks h ≡ Some ranks → AreRanksWith (slice_index_or (state_of l.known).hands h []) l.board ranks;
}
