use Rattle.std.proofs.Common.{◌^◌, map, ap, ◌∙◌}
use Rattle.player_totals.specs.SumsSeen.{seated_share, with_given}
use Rattle.player_totals.specs.Totals.{playing}
use Rattle.player_totals.specs.TotalsSeen.{named_player}
use Rattle.player_totals.proofs.LineupFacts.{players_small}
use Rattle.player_totals.proofs.players.add_hand.Goals as goal

pub add_sums-requires-clause-sums : goal.add_sums-requires-clause-sums
add_sums-requires-clause-sums g c =
    let lineup = c.args.lineup.now in
    let new = map (λ who. named_player lineup.hundredths who.1) (playing lineup.names.now lineup.players) in
    rw c.in_ok-add_players.ensures.added (players_small g.S.Sums.laws (2 ^ 32) c.args.players.now new c.requires.sums)

pub returns-clause-added : goal.returns-clause-added
returns-clause-added g c =
    let m = g.S.Sums in
    let lineup = c.args.lineup.now in
    let given = seated_share m.nothing lineup.hundredths (g.H.Gives.share c.args.hand.now) (playing lineup.names.now lineup.players) in
    c.add_sums.ensures.added ∙ ap (with_given m.plus given) c.in_ok-add_players.ensures.added

pub returns-clause-small : goal.returns-clause-small
returns-clause-small g c = λ count small.
    let lineup = c.args.lineup.now in
    let new = map (λ who. named_player lineup.hundredths who.1) (playing lineup.names.now lineup.players) in
    c.add_sums.ensures.small count (rw c.in_ok-add_players.ensures.added (players_small g.S.Sums.laws count c.args.players.now new small))
