use Rattle.std.proofs.Common.{◌≡◌, ◌+◌, take}
use Rattle.draw_runouts.specs.LastHand.{ArePairSums}
use Rattle.draw_runouts.proofs.pairs.compare_both.Given as goal

abbrev pub invariant-loop-place : goal.invariant-loop-place
invariant-loop-place g l = record {
  sums : ArePairSums l.highs l.lows l.pots (take l.place l.values) (take l.place l.low_values) l.sums;
  steps : l.steps ≡ l.fn.steps + l.place;
}
