use Rattle.std.proofs.Common.{◌≡◌, ℕ, ◌<◌, [], length}
use Rattle.std.specs.Prelude.{slice_index_or}
use Rattle.std.specs.Option.{option_map}
use Rattle.showdown_tally.specs.Numbers.{side_number}
use Rattle.showdown_tally.specs.Settling.{number_of}
use Rattle.showdown_tally.specs.Showdown.{best}
use Rattle.showdown_tally.proofs.runout.side_values.Given as goal

abbrev pub invariant-loop-hand : goal.invariant-loop-hand
invariant-loop-hand l = record {
  size : length l.values ≡ 10;
  so_far : (h : ℕ) → h < l.hand → number_of l.values h ≡ option_map (side_number l.side l.game) (best l.side l.game (slice_index_or l.hands h []) l.board);
}
