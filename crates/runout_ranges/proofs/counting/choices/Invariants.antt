use Rattle.std.proofs.Common.{◌≡◌}
use Rattle.runout_ranges.specs.Ways.{binomial}
use Rattle.runout_ranges.proofs.counting.choices.Given as goal

abbrev pub invariant-loop-i : goal.invariant-loop-i
invariant-loop-i l = l.choices ≡ binomial l.n l.i
