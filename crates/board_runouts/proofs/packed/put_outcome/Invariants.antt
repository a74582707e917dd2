use Rattle.std.proofs.Common.{◌≡◌, length}
use Rattle.showdown_tally.specs.Deals.{deal_of}
use Rattle.board_runouts.proofs.PairCounts.{IsPutOut}
use Rattle.board_runouts.proofs.packed.put_outcome.Given as goal

abbrev pub invariant-loop-pot : goal.invariant-loop-pot
invariant-loop-pot l = record {
  put : IsPutOut (deal_of l.spot.table) l.outcome l.times l.pot l.fn.counts l.counts;
  same : length l.counts ≡ length l.fn.counts;
}
