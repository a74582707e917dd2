use Rattle.std.proofs.Common.{◌≡◌}
use Rattle.draw_runouts.specs.Worth.{plane_base}
use Rattle.draw_runouts.proofs.numbers.plane_base.Given as goal

abbrev pub invariant-loop-below : goal.invariant-loop-below
invariant-loop-below l = l.base ≡ plane_base l.below
