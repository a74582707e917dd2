use Rattle.std.proofs.Common.{◌≡◌, ◌+◌, length, take}
use Rattle.showdown_tally.specs.Deals.{deal_of}
use Rattle.board_runouts.specs.PlainRanks.{RowsGrow}
use Rattle.board_runouts.proofs.plain_ranks.count_rows.Given as goal

abbrev pub invariant-loop-ranks : goal.invariant-loop-ranks
invariant-loop-ranks g l = record {
  grown : RowsGrow (deal_of l.front.spot.now.table) l.front.rows.now (take l.ranks-index l.all) l.fn.counts l.counts;
  same : length l.counts ≡ length l.fn.counts;
  steps : l.steps ≡ l.fn.steps + l.ranks-index;
}
