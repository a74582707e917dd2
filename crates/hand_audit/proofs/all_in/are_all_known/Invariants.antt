use Rattle.std.specs.Prelude.{◌≡◌, None, is_some, slice_index_or}
use Rattle.std.specs.List.{list_all}
use Rattle.card_sets.specs.PlayerSets.{AreBelow, players_in, seats_in}
use Rattle.hand_audit.proofs.all_in.are_all_known.Given as goal

abbrev pub invariant-loop-seat : goal.invariant-loop-seat
invariant-loop-seat l = record {
  left : list_all (λ p. is_some (slice_index_or l.cards p None)) (players_in l.seat-iterator.rest) ≡ list_all (λ p. is_some (slice_index_or l.cards p None)) (seats_in l.fn.seats);
  below : AreBelow 11 (players_in l.seat-iterator.rest);
}
