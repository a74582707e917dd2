use Rattle.std.proofs.Common.{◌≡◌, drop, map}
use Rattle.hand_events.specs.Names.{name_of}
use Rattle.hand_events.specs.Seated.{pair}
use Rattle.hand_events.proofs.names.name_of.Given as goal

abbrev pub invariant-loop-who : goal.invariant-loop-who
invariant-loop-who l = name_of l.seat (map pair (drop l.who-index l.seats)) ≡ name_of l.seat (map pair l.seats)
