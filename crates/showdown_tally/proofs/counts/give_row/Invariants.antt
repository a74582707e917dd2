use Rattle.std.proofs.Common.{ℕ, ◌+◌, ◌*◌, ◌<◌, ◌≤◌}
use Rattle.showdown_tally.specs.Cells.{Grows, cell_at, units_at}
use Rattle.showdown_tally.specs.CountShares.{CellWithin, places_cells, places_units}
use Rattle.showdown_tally.proofs.counts.give_row.Given as goal

abbrev pub invariant-loop-set : goal.invariant-loop-set
invariant-loop-set l = record {
  grown : Grows l.fn.tally l.tally
      (places_cells l.stake.pot l.stake.side l.stake.hands l.stake.count l.row l.set)
      (places_units l.stake.pot l.stake.hands l.stake.count l.halved l.row l.set);
  cells : (h : ℕ) → h < 10 → CellWithin (cell_at l.tally l.stake.pot h l.stake.side) (l.set * 8589934592);
  units : (h : ℕ) → h < 10 → units_at l.tally l.stake.pot h ≤ units_at l.fn.tally l.stake.pot h + l.set * 43293270343680;
}
