use Rattle.std.specs.Prelude.{◌≡◌, ◌<◌, ℕ, length, true, None, IfSome, slice_index_or}
use Rattle.betting_replay.specs.TableAfter.{final_at}
use Rattle.hand_audit.specs.Winning.{is_full, full_with}
use Rattle.hand_audit.proofs.worths.full_hands.Given as goal

abbrev pub invariant-loop-seat : goal.invariant-loop-seat
invariant-loop-seat l = record {
  size : length l.hands ≡ 11;
  so_far : (p : ℕ) → p < l.seat → slice_index_or l.hands p None ≡ full_with l.game l.board (final_at l.replay p);
  full : (p : ℕ) → p < l.seat → IfSome (slice_index_or l.hands p None) (λ own. is_full l.game l.board own ≡ true);
}
