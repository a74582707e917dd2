use Rattle.range_lines.specs.Weights.{IsTable, AddedWhere}
use Rattle.range_lines.proofs.WeightTables.{first_suits}
use Rattle.range_lines.proofs.weights.add_beside.Given as goal

abbrev pub invariant-loop-suit : goal.invariant-loop-suit
invariant-loop-suit l = record {
  table : IsTable l.cells;
  added : AddedWhere l.fn.entry (first_suits l.fn.low l.suit) l.fn.cells l.cells;
}
