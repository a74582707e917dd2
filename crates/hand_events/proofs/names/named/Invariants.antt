use Rattle.std.proofs.Common.{◌≡◌, drop, map}
use Rattle.hand_events.specs.Names.{seat_named}
use Rattle.hand_events.specs.Seated.{pair}
use Rattle.hand_events.proofs.names.named.Given as goal

abbrev pub invariant-loop-who : goal.invariant-loop-who
invariant-loop-who l = seat_named l.text (map pair (drop l.who-index l.seats)) ≡ seat_named l.text (map pair l.seats)
