use Rattle.std.specs.Prelude.{◌≡◌, ◌+◌, ◌≤◌, drop, length, map, take}
use Rattle.card_sets.specs.PlayerSets.{AreBelow, players_in, seats_in}
use Rattle.hand_audit.specs.KnownTables.{ten}
use Rattle.hand_audit.proofs.known_tables.seats_of.Given as goal

abbrev pub invariant-loop-seat : goal.invariant-loop-seat
invariant-loop-seat l = record {
  left : drop l.count (seats_in l.fn.seats) ≡ players_in l.seat-iterator.rest;
  few : l.count + length (players_in l.seat-iterator.rest) ≤ 10;
  below : AreBelow 11 (players_in l.seat-iterator.rest);
  all : l.all ≡ ten 0 (map (λ p. p) (take l.count (seats_in l.fn.seats)));
}
