use Rattle.std.specs.Prelude.{◌≡◌}
use Rattle.std.specs.List.{list_all}
use Rattle.card_sets.specs.PlayerSets.{AreBelow, has_player, players_in, seats_in}
use Rattle.hand_audit.proofs.winners.are_known.Given as goal

abbrev pub invariant-loop-seat : goal.invariant-loop-seat
invariant-loop-seat l = record {
  left : list_all (has_player l.known) (players_in l.seat-iterator.rest) ≡ list_all (has_player l.known) (seats_in l.fn.seats);
  below : AreBelow 11 (players_in l.seat-iterator.rest);
}
