use Rattle.std.proofs.Common.{◌≡◌, take, None}
use Rattle.hand_events.specs.Names.{seat_named}
use Rattle.player_totals.specs.Totals.{playing}
use Rattle.player_totals.proofs.players.Lineup.has_before.Given as goal

abbrev pub invariant-loop-earlier : goal.invariant-loop-earlier
invariant-loop-earlier l = seat_named l.name (playing (take l.earlier l.self.names.now) l.self.players) ≡ None
