use Rattle.std.specs.Prelude.{◌≡◌, ◌<◌, ℕ, length, None, slice_index_or}
use Rattle.hand_audit.specs.Marks.{mark_of}
use Rattle.hand_audit.proofs.marks.marks.Given as goal

abbrev pub invariant-loop-seat : goal.invariant-loop-seat
invariant-loop-seat l = record {
  size : length l.marks ≡ 11;
  so_far : (p : ℕ) → p < l.seat → slice_index_or l.marks p 0 ≡ mark_of l.side l.game l.board (slice_index_or l.hands p None);
  cards : (p : ℕ) → p < 11 → slice_index_or l.marks p 0 < 52;
}
