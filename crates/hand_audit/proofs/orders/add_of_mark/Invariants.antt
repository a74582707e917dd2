use Rattle.std.specs.Prelude.{◌≡◌, ◌==◌, ◌++◌, filter, slice_index_or}
use Rattle.card_sets.specs.PlayerSets.{AreBelow, players_in, seats_in}
use Rattle.hand_audit.proofs.orders.add_of_mark.Given as goal

abbrev pub invariant-loop-seat : goal.invariant-loop-seat
invariant-loop-seat l = record {
  all : l.order ++ filter (λ p. slice_index_or l.marks p 0 == l.mark) (players_in l.seat-iterator.rest) ≡ l.fn.order ++ filter (λ p. slice_index_or l.marks p 0 == l.mark) (seats_in l.fn.winners);
  below : AreBelow 11 (players_in l.seat-iterator.rest);
}
