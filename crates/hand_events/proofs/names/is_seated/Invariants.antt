use Rattle.std.proofs.Common.{◌≡◌, drop, map}
use Rattle.hand_events.specs.Names.{is_seated}
use Rattle.hand_events.specs.Seated.{pair}
use Rattle.hand_events.proofs.names.is_seated.Given as goal

abbrev pub invariant-loop-who : goal.invariant-loop-who
invariant-loop-who l = is_seated l.seat (map pair (drop l.who-index l.seats)) ≡ is_seated l.seat (map pair l.seats)
