use Rattle.std.proofs.Common.{◌≡◌, ◌<◌, ◌+◌, ℕ, List, Some, length}
use Rattle.std.specs.Prelude.{slice_get}
use Rattle.card_sets.specs.State.{state_of}
use Rattle.showdown_tally.specs.Deals.{deal_of}
use Rattle.board_runouts.specs.KeptRows.{AreWorthsAfter, IsAway, IsBestAt}
use Rattle.board_runouts.specs.declared.row.Row.{Row}
use Rattle.board_runouts.proofs.RowSets.{WasBut}
use Rattle.board_runouts.proofs.fill.put_ends.Given as goal

abbrev pub invariant-loop-pot : goal.invariant-loop-pot
invariant-loop-pot l = record {
  places : length l.rows ≡ length l.fn.rows;
  here : (pot : ℕ) (row : Row) → pot < l.pot → slice_get l.rows (l.base + pot) ≡ Some row
      → (runout : List (List ℕ)) → AreWorthsAfter (state_of l.table.known) runout l.worths → IsBestAt (deal_of l.table) pot runout row l.place;
  others : (i : ℕ) (row : Row) → slice_get l.rows i ≡ Some row → WasBut l.fn.rows l.place i row;
  away : (i : ℕ) → IsAway l.base l.pot i → slice_get l.rows i ≡ slice_get l.fn.rows i;
}
