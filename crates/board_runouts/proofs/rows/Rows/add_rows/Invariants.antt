use Rattle.std.proofs.Common.{◌≡◌, ◌<◌, ◌+◌, ℕ, Some, length}
use Rattle.std.specs.Prelude.{slice_get}
use Rattle.board_runouts.specs.declared.row.Row.{Row}
use Rattle.board_runouts.proofs.rows.Rows.add_rows.Given as goal

abbrev pub invariant-loop : goal.invariant-loop
invariant-loop l = record {
  count : length l.self.rows.items ≡ length l.fn.self.rows.items + l.counter;
  kept : (i : ℕ) (row : Row) → i < length l.fn.self.rows.items → slice_get l.self.rows.items i ≡ Some row → slice_get l.fn.self.rows.items i ≡ Some row;
}
