use Rattle.std.specs.Prelude.{◌≡◌, ◌+◌, drop, length}
use Rattle.card_sets.specs.PlayerSets.{AreBelow, players_in, players_where, seats_in}
use Rattle.hand_audit.proofs.lemmas.tables.EligibleHands.{has_place}
use Rattle.hand_audit.proofs.known_tables.places_in.Given as goal

abbrev pub invariant-loop-seat : goal.invariant-loop-seat
invariant-loop-seat l = record {
  left : drop l.count (seats_in l.fn.seats) ≡ players_in l.seat-iterator.rest;
  few : l.count + length (players_in l.seat-iterator.rest) ≡ length (seats_in l.fn.seats);
  below : AreBelow 11 (players_in l.seat-iterator.rest);
  places : l.places ≡ players_where (has_place (seats_in l.fn.seats) l.set) l.count;
}
