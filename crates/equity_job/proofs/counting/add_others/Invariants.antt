use Rattle.std.proofs.Common.{◌≡◌, ◌+◌, length}
use Rattle.card_sets.specs.State.{state_of}
use Rattle.showdown_tally.specs.Deals.{deal_of}
use Rattle.showdown_tally.specs.Tallies.{Counts, runouts_after}
use Rattle.job_blocks.specs.Blocks.{blocks_below}
use Rattle.equity_job.proofs.counting.add_others.Given as goal

abbrev pub invariant-loop-block : goal.invariant-loop-block
invariant-loop-block g l = record {
  counts : Counts (deal_of l.job.table) (blocks_below (runouts_after (state_of l.job.table.known)) l.block) l.total;
  steps : l.steps + length (blocks_below (runouts_after (state_of l.job.table.known)) 1) ≡ l.fn.steps + length (blocks_below (runouts_after (state_of l.job.table.known)) l.block);
}
