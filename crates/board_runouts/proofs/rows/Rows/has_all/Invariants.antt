use Rattle.std.proofs.Common.{◌≡◌, ◌<◌, ◌≤◌, ◌+◌, ℕ, Some, length}
use Rattle.std.specs.Prelude.{slice_get}
use Rattle.board_runouts.specs.KeptRows.{IsNamed}
use Rattle.board_runouts.specs.declared.row.Row.{Row}
use Rattle.board_runouts.proofs.rows.Rows.has_all.Given as goal

abbrev pub invariant-loop-pot : goal.invariant-loop-pot
invariant-loop-pot l = record {
  place : l.base + l.pots ≤ length l.self.rows.items;
  names : (pot : ℕ) (row : Row) → pot < l.pot → slice_get l.self.rows.items (l.base + pot) ≡ Some row → IsNamed row pot l.ranks l.least;
}
