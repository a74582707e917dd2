use Rattle.std.proofs.Common.{◌≡◌, take}
use Rattle.player_totals.specs.SumsSeen.{seated_share, with_given}
use Rattle.player_totals.specs.Totals.{Player, playing}
use Rattle.player_totals.proofs.players.add_sums.Given as goal

abbrev pub invariant-loop-place : goal.invariant-loop-place
invariant-loop-place g l =
    let m = g.S.Sums in
    let given = seated_share m.nothing l.lineup.hundredths (g.H.Gives.share l.hand) (playing (take l.place l.lineup.names.now) l.lineup.players) in
    record {
      sums : l.players ≡ with_given m.plus given l.fn.players;
      small : (player : Player) → m.AreOf 1 (given player);
    }
