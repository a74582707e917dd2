use Rattle.std.proofs.Common.{◌≡◌, length}
use Rattle.board_runouts.specs.Fronts.{front_deal}
use Rattle.board_runouts.proofs.PairCounts.{IsCounted}
use Rattle.board_runouts.proofs.board_leaf.count_suited.Given as goal

abbrev pub invariant-loop-pot : goal.invariant-loop-pot
invariant-loop-pot l = record {
  counted : IsCounted (front_deal l.front) l.front.taken l.pair l.pot l.fn.counts l.counts;
  same : length l.counts ≡ length l.fn.counts;
}
