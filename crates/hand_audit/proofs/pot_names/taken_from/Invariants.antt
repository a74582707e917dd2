use Rattle.std.specs.Prelude.{◌≡◌, ◌*◌, ◌^◌, ◌≤◌, take}
use Rattle.hand_audit.specs.Collections.{taken_from}
use Rattle.hand_audit.specs.PotNames.{counts_from}
use Rattle.hand_audit.proofs.pot_names.taken_from.Given as goal

abbrev pub invariant-loop-one : goal.invariant-loop-one
invariant-loop-one l = record {
  so_far : l.units ≡ taken_from (counts_from l.source) (take l.one-index l.all);
  room : l.units ≤ l.one-index * 2 ^ 64;
}
