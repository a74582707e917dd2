use Rattle.std.proofs.Common.{◌-◌}
use Rattle.card_sets.specs.State.{state_of}
use Rattle.showdown_tally.specs.Deals.{deal_of}
use Rattle.showdown_tally.specs.Tallies.{runouts_after}
use Rattle.run_rows.proofs.Walked.{IsWalk}
use Rattle.run_rows.proofs.equities.plain.count_plain.Given as goal

abbrev pub invariant-loop-runout : goal.invariant-loop-runout
invariant-loop-runout g l = IsWalk (deal_of l.job.table) (runouts_after (state_of l.job.table.known)) l.runout l.tally l.fn.steps l.steps

-- the runouts that aren't in the tally
abbrev pub decreases-loop-runout : goal.decreases-loop-runout
decreases-loop-runout g l = l.job.runouts - l.tally.runouts
