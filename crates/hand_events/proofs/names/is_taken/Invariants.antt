use Rattle.std.proofs.Common.{◌≡◌, drop, map}
use Rattle.hand_events.specs.Names.{is_taken}
use Rattle.hand_events.specs.Seated.{pair}
use Rattle.hand_events.proofs.names.is_taken.Given as goal

abbrev pub invariant-loop-who : goal.invariant-loop-who
invariant-loop-who l = is_taken l.seat l.name (map pair (drop l.who-index l.seats)) ≡ is_taken l.seat l.name (map pair l.seats)
