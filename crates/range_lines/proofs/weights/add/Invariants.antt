use Rattle.std.specs.Prelude.{nat_lt}
use Rattle.range_lines.specs.Weights.{IsTable, AddedWhere}
use Rattle.range_lines.proofs.weights.add.Given as goal

abbrev pub invariant-loop-number : goal.invariant-loop-number
invariant-loop-number l = record {
  table : IsTable l.cells;
  added : AddedWhere l.fn.entry (λ low high. nat_lt low l.number) l.fn.cells l.cells;
}
