use Rattle.std.proofs.Common.{◌≡◌, map, take}
use Rattle.player_totals.specs.TotalsSeen.{player_of}
use Rattle.player_totals.proofs.LineupFacts.{of_seats}
use Rattle.player_totals.proofs.players.Lineup.keys.Given as goal

abbrev pub invariant-loop-who : goal.invariant-loop-who
invariant-loop-who l = map player_of l.keys.items ≡ of_seats l.self.hundredths (take l.who-index l.seats)
