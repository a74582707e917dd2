use Rattle.std.proofs.Common.{◌≡◌, ◌<◌, ◌+◌, ℕ, Some, length}
use Rattle.std.specs.Prelude.{slice_get}
use Rattle.board_runouts.specs.KeptRows.{IsAway, IsNamed}
use Rattle.board_runouts.specs.declared.row.Row.{Row}
use Rattle.board_runouts.proofs.fill.name_rows.Given as goal

abbrev pub invariant-loop-pot : goal.invariant-loop-pot
invariant-loop-pot l = record {
  places : length l.rows ≡ length l.fn.rows;
  names : (pot : ℕ) (row : Row) → pot < l.pot → slice_get l.rows (l.base + pot) ≡ Some row → IsNamed row pot l.ranks l.least;
  away : (i : ℕ) → IsAway l.base l.pot i → slice_get l.rows i ≡ slice_get l.fn.rows i;
}
