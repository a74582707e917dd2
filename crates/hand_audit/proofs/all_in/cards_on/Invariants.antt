use Rattle.std.specs.Prelude.{◌≡◌, ◌<◌, ℕ, length, None, slice_index_or}
use Rattle.betting_replay.specs.Table.{known_at}
use Rattle.hand_audit.proofs.all_in.cards_on.Given as goal

abbrev pub invariant-loop-seat : goal.invariant-loop-seat
invariant-loop-seat l = record {
  size : length l.cards ≡ 11;
  so_far : (p : ℕ) → p < l.seat → slice_index_or l.cards p None ≡ known_at l.replay p l.street;
}
