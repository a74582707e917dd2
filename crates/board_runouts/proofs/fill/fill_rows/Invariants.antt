use Rattle.std.proofs.Common.{◌≡◌, ◌<◌, ◌≤◌, ◌+◌, ◌*◌, ◌/◌, ◌%◌, ℕ, List, Some, length}
use Rattle.std.specs.Prelude.{slice_get}
use Rattle.card_sets.specs.State.{state_of}
use Rattle.showdown_tally.specs.Deals.{deal_of}
use Rattle.board_runouts.specs.KeptRows.{IsAway, IsBestAt, IsNamed}
use Rattle.board_runouts.specs.SideRows.{IsDealtWith}
use Rattle.board_runouts.specs.declared.row.Row.{Row}
use Rattle.board_runouts.proofs.fill.fill_rows.Given as goal

abbrev pub invariant-loop-low : goal.invariant-loop-low
invariant-loop-low l = record {
  places : length l.rows ≡ length l.fn.rows;
  names : (pot : ℕ) (row : Row) → pot < l.start.spot.now.table.pots → slice_get l.rows (l.base + pot) ≡ Some row → IsNamed row pot l.start.ranks l.start.least;
  rows : (pot k : ℕ) (row : Row) (runout : List (List ℕ)) → pot < l.start.spot.now.table.pots → slice_get l.rows (l.base + pot) ≡ Some row → k < 13 * l.low → l.start.least ≤ k / 13 → k / 13 ≤ k % 13
      → IsDealtWith (state_of l.start.spot.now.table.known) l.start.ranks (k / 13) (k % 13) runout → IsBestAt (deal_of l.start.spot.now.table) pot runout row k;
  away : (i : ℕ) → IsAway l.base l.start.spot.now.table.pots i → slice_get l.rows i ≡ slice_get l.fn.rows i;
}

abbrev pub invariant-loop-high : goal.invariant-loop-high
invariant-loop-high l = record {
  places : length l.rows ≡ length l.fn.rows;
  names : (pot : ℕ) (row : Row) → pot < l.start.spot.now.table.pots → slice_get l.rows (l.base + pot) ≡ Some row → IsNamed row pot l.start.ranks l.start.least;
  rows : (pot k : ℕ) (row : Row) (runout : List (List ℕ)) → pot < l.start.spot.now.table.pots → slice_get l.rows (l.base + pot) ≡ Some row → k < 13 * l.low + l.high → l.start.least ≤ k / 13 → k / 13 ≤ k % 13
      → IsDealtWith (state_of l.start.spot.now.table.known) l.start.ranks (k / 13) (k % 13) runout → IsBestAt (deal_of l.start.spot.now.table) pot runout row k;
  away : (i : ℕ) → IsAway l.base l.start.spot.now.table.pots i → slice_get l.rows i ≡ slice_get l.fn.rows i;
}
