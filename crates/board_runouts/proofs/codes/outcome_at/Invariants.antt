use Rattle.std.proofs.Common.{◌≡◌, ℕ, ◌<◌, Some, length}
use Rattle.std.specs.Prelude.{slice_get, slice_index}
use Rattle.card_sets.specs.declared.games.Side.{Side}
use Rattle.board_runouts.specs.Fields.{end_of}
use Rattle.board_runouts.specs.KeptRows.{row_place}
use Rattle.board_runouts.specs.declared.row.Row.{Row}
use Rattle.board_runouts.proofs.codes.outcome_at.Given as goal

abbrev pub invariant-loop-pot : goal.invariant-loop-pot
invariant-loop-pot l = record {
  done : (p : ℕ) (side : Side) (row : Row) → p < l.pot → slice_get l.rows p ≡ Some row → end_of p side l.outcome ≡ row_place row side l.place;
  few : (end : ℕ) → slice_index l.outcome end < 2048;
  places : length l.outcome ≡ 20;
}
