use Rattle.std.proofs.Common.{◌≡◌, ◌+◌, ℕ, List, length}
use Rattle.runout_ranges.specs.Runouts.{HasMember}
use Rattle.runout_ranges.specs.Shapes.{runouts_of}
use Rattle.showdown_tally.specs.Deals.{deal_of}
use Rattle.showdown_tally.specs.Tallies.{Counts}
use Rattle.call_rows.proofs.rows.settling.settled.Given as goal

abbrev pub invariant-loop-count : goal.invariant-loop-count
invariant-loop-count g l = record {
  walk : HasMember (runouts_of l.shape) l.runout;
  counted : (done : List (List (List ℕ))) × (length done ≡ l.count) × Counts (deal_of l.table) done l.tally;
  steps : l.steps ≡ l.fn.steps + l.tally.runouts;
}
