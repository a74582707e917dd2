use Rattle.std.proofs.Common.{◌≡◌, length}
use Rattle.showdown_tally.specs.Deals.{deal_of}
use Rattle.board_runouts.proofs.PairCounts.{IsPut}
use Rattle.board_runouts.proofs.places.put_runout.Given as goal

abbrev pub invariant-loop-pot : goal.invariant-loop-pot
invariant-loop-pot l = record {
  put : IsPut (deal_of l.front.spot.now.table) l.front.rows.now l.ranks 1 l.pot l.fn.counts l.counts;
  same : length l.counts ≡ length l.fn.counts;
}
