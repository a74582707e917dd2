use Rattle.std.proofs.Common.{◌≡◌, ◌-◌, ◌^◌}
use Rattle.showdown_tally.specs.Settling.{top_below}
use Rattle.hand_ranges.proofs.winners.top_of.Given as goal

abbrev pub invariant-loop-hand : goal.invariant-loop-hand
invariant-loop-hand l = l.top ≡ top_below l.values (2 ^ l.count - 1) l.hand
