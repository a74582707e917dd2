use Rattle.std.specs.Prelude.{◌≡◌, ◌*◌, ◌^◌, ◌≤◌, ◌<◌, ℕ, slice_index_or, take}
use Rattle.hand_audit.specs.Collections.{got_from}
use Rattle.hand_audit.specs.PotNames.{counts_from}
use Rattle.hand_audit.proofs.payments.got_by_seat.Given as goal

abbrev pub invariant-loop-one : goal.invariant-loop-one
invariant-loop-one l = record {
  so_far : (p : ℕ) → p < 11 → slice_index_or l.sums p 0 ≡ got_from (counts_from l.source) p (take l.one-index l.all);
  room : (p : ℕ) → slice_index_or l.sums p 0 ≤ l.one-index * 2 ^ 64;
}
