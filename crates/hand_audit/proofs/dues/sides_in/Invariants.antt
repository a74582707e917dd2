use Rattle.std.specs.Prelude.{◌≡◌, ◌*◌, ◌^◌, ◌≤◌, take}
use Rattle.hand_audit.specs.Parts.{sides_in}
use Rattle.hand_audit.proofs.dues.sides_in.Given as goal

abbrev pub invariant-loop-part : goal.invariant-loop-part
invariant-loop-part l = record {
  so_far : l.sides ≡ sides_in l.seat (take l.part-index l.parts);
  room : l.sides ≤ l.part-index * 2 ^ 64;
}
