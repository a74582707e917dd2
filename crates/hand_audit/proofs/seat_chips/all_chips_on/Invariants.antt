use Rattle.std.specs.Prelude.{◌≡◌, ◌<◌, ℕ, length}
use Rattle.hand_verdict.specs.SeatSums.{chips_at}
use Rattle.hand_audit.specs.SeatChips.{chips_on}
use Rattle.hand_audit.proofs.seat_chips.all_chips_on.Given as goal

abbrev pub invariant-loop-seat : goal.invariant-loop-seat
invariant-loop-seat l = record {
  size : length l.chips ≡ 11;
  so_far : (p : ℕ) → p < l.seat → chips_at l.chips p ≡ chips_on l.replay p;
}
