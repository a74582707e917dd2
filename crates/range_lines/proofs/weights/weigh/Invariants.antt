use Rattle.range_lines.specs.Texts.{texts_left}
use Rattle.range_lines.specs.Weights.{pairs_in, IsTable}
use Rattle.range_lines.proofs.ItemWeights.{Weighing}
use Rattle.range_lines.proofs.weights.weigh.Given as goal

abbrev pub invariant-loop-text : goal.invariant-loop-text
invariant-loop-text l = record {
  more : (goal.iterator-loop-text).can_next l.text-iterator;
  ends : (goal.iterator-loop-text).is_finite l.text-iterator;
  table : IsTable l.cells;
  state : Weighing l.fn.word (pairs_in l.cells) (texts_left l.text-iterator);
}
