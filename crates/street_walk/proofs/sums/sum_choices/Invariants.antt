use Rattle.std.proofs.Common.{◌≡◌, ◌+◌, ◌-◌}
use Rattle.showdown_tally.specs.Deals.{deal_of}
use Rattle.runout_ranges.specs.declared.limits.TheConstants.{RUNOUT_MAX}
use Rattle.street_walk.proofs.SumWalk.{IsStreetWalk}
use Rattle.street_walk.proofs.sums.sum_choices.Given as goal

abbrev pub invariant-loop-choice : goal.invariant-loop-choice
invariant-loop-choice g l = record { walk : IsStreetWalk (deal_of l.table) l.choice l.total; steps : l.steps ≡ l.fn.steps + l.total.runouts }

abbrev pub decreases-loop-choice : goal.decreases-loop-choice
decreases-loop-choice g l = RUNOUT_MAX - l.total.runouts
