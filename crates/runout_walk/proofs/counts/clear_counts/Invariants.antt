use Rattle.std.proofs.Common.{◌≡◌, length}
use Rattle.runout_walk.specs.OneMore.{ClearsTo}
use Rattle.runout_walk.proofs.counts.clear_counts.Given as goal

abbrev pub invariant-loop-pot : goal.invariant-loop-pot
invariant-loop-pot l = record {
  far : ClearsTo l.table.known.game l.pot l.fn.counts l.counts;
  same : length l.counts ≡ length l.fn.counts;
}
