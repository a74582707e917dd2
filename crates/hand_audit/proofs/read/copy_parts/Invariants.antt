use Rattle.std.specs.Prelude.{◌≡◌, take}
use Rattle.hand_audit.proofs.read.copy_parts.Given as goal

abbrev pub invariant-loop-one : goal.invariant-loop-one
invariant-loop-one l = l.parts.items ≡ take l.one-index l.all
