use Rattle.std.specs.Prelude.{◌≡◌, map, take}
use Rattle.card_sets.specs.PlayerSets.{seats_in}
use Rattle.hand_audit.specs.KnownTables.{ten, places_in}
use Rattle.hand_audit.proofs.known_tables.eligible_of.Given as goal

abbrev pub invariant-loop-number : goal.invariant-loop-number
invariant-loop-number l = l.all ≡ ten 0 (map (λ pot. places_in (seats_in l.seats) pot.eligible) (take l.number l.pots))
