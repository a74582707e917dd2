use Rattle.std.proofs.Common.{◌≡◌, drop}
use Rattle.runout_ranges.specs.Slots.{dealt}
use Rattle.runout_ranges.specs.Shapes.{slots_of}
use Rattle.street_walk.proofs.after.dealt_to.Given as goal

abbrev pub invariant-loop-place : goal.invariant-loop-place
invariant-loop-place l = dealt (drop l.place (slots_of l.shape)) (drop l.place l.sets) l.receiver ≡ dealt (slots_of l.shape) l.sets l.receiver
