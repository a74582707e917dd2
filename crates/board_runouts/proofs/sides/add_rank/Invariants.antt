use Rattle.std.proofs.Common.{◌≡◌, ◌<◌, ℕ, List, [], Some, length}
use Rattle.std.specs.Prelude.{slice_get, slice_index_or}
use Rattle.card_sets.specs.State.{state_of}
use Rattle.card_sets.specs.declared.sets.ByRank.{ByRank}
use Rattle.board_ranks.specs.BoardWith.{AreRanksAnd}
use Rattle.board_runouts.specs.HandRanks.{AreHandRanks}
use Rattle.board_runouts.proofs.sides.add_rank.Given as goal

abbrev pub invariant-loop-hand : goal.invariant-loop-hand
invariant-loop-hand l = record {
  size : length l.more ≡ 10;
  right : (board : List ℕ) (h : ℕ) (ranks : ByRank) → AreHandRanks (state_of l.known) board l.held → h < l.hand → slice_get l.more h ≡ Some ranks
      → AreRanksAnd (slice_index_or (state_of l.known).hands h []) board l.rank ranks;
}
