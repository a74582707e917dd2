use Rattle.std.proofs.Common.{◌≡◌, ◌+◌, take}
use Rattle.board_runouts.specs.Fronts.{AddPairs, HoldsFlushes}
use Rattle.board_runouts.proofs.board_leaf.count_pairs.Given as goal

abbrev pub invariant-loop-pair : goal.invariant-loop-pair
invariant-loop-pair g l = record {
  grown : AddPairs l.front (take l.pair-index l.pairs) l.fn.counts l.counts;
  flushes : HoldsFlushes l.front l.flushes;
  steps : l.steps ≡ l.fn.steps + l.pair-index;
}
