use Rattle.std.proofs.Common.{◌≡◌, ◌+◌, ◌-◌, ◌≤◌, length, take}
use Rattle.showdown_tally.specs.Deals.{deal_of}
use Rattle.board_runouts.specs.PlainRanks.{CodesGrow}
use Rattle.board_runouts.proofs.plain_ranks.count_codes.Given as goal

abbrev pub invariant-loop-at : goal.invariant-loop-at
invariant-loop-at g l = record {
  within : l.at ≤ length l.all;
  grown : CodesGrow (deal_of l.front.spot.now.table) l.codes (take l.at l.all) l.fn.counts l.counts;
  same : length l.counts ≡ length l.fn.counts;
  steps : l.steps ≡ l.fn.steps + l.at;
}

abbrev pub decreases-loop-at : goal.decreases-loop-at
decreases-loop-at g l = length l.all - l.at
