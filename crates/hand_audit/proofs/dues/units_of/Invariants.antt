use Rattle.std.specs.Prelude.{◌≡◌, ◌*◌, ◌^◌, ◌≤◌, take}
use Rattle.hand_audit.specs.Parts.{units_of}
use Rattle.hand_audit.proofs.dues.units_of.Given as goal

abbrev pub invariant-loop-part : goal.invariant-loop-part
invariant-loop-part l = record {
  so_far : l.units ≡ units_of l.seat (take l.part-index l.parts);
  room : l.units ≤ l.part-index * 2 ^ 64;
}
