use Rattle.std.proofs.Common.{◌+◌, ◌<◌, ◌≤◌, ℕ, []}
use Rattle.std.specs.Prelude.{slice_index, slice_index_or}
use Rattle.rank_high.specs.Parts.{count_of_suit}
use Rattle.board_ranks.specs.HighParts.{flush_part}
use Rattle.board_ranks.proofs.suits.most_of.Given as goal

abbrev pub invariant-loop-own : goal.invariant-loop-own
invariant-loop-own l = record {
  bound : (s : ℕ) → slice_index l.most s ≤ 104;
  most : (h s : ℕ) → h < l.own-index → s < 4 → flush_part l.known.game (count_of_suit (slice_index_or l.hands h []) s) + count_of_suit l.known.board s ≤ slice_index l.most s;
}
