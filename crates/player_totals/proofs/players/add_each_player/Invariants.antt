use Rattle.std.proofs.Common.{◌≡◌, length, map, take}
use Rattle.player_totals.specs.SumsSeen.{with_players}
use Rattle.player_totals.specs.Totals.{playing}
use Rattle.player_totals.specs.TotalsSeen.{named_player}
use Rattle.player_totals.proofs.players.add_each_player.Given as goal

abbrev pub invariant-loop-place : goal.invariant-loop-place
invariant-loop-place g l = record {
  added : l.players
      ≡ with_players g.S.Sums.nothing l.fn.players
      (map (λ who. named_player l.lineup.hundredths who.1) (playing (take l.place l.lineup.names.now) l.lineup.players));
  kept : take (length l.fn.players) l.players ≡ l.fn.players;
}
