use Rattle.std.proofs.Common.{◌≡◌, length}
use Rattle.showdown_tally.specs.Deals.{deal_of}
use Rattle.runout_walk.proofs.OneRunoutMore.{IsCounted}
use Rattle.runout_walk.proofs.plain.count_one.Given as goal

abbrev pub invariant-loop-pot : goal.invariant-loop-pot
invariant-loop-pot l = record {
  far : IsCounted (deal_of l.table) l.sets l.pot l.fn.counts l.counts;
  same : length l.counts ≡ length l.fn.counts;
}
