use Rattle.std.proofs.Common.{◌≡◌, length, map, take, ap, ◌∙◌, arith}
use Rattle.std.proofs.Math.Seq.{take-length}
use Rattle.player_totals.specs.TotalsSeen.{named_player, player_of}
use Rattle.player_totals.proofs.LineupFacts.{keys_more, of_seats}
use Rattle.player_totals.proofs.players.Lineup.keys.Goals as goal

pub loop-who-preserved : goal.loop-who-preserved
loop-who-preserved c =
    let unit = c.args.self.now.hundredths in
    ap (map player_of) c.in_ok-push.ensures.items
    ∙ keys_more unit c.seats-seats.result.now c.loop-who.who-index c.who-item.result c.loop-who.keys.items _ (omega arith) c.who-item.is
    (c.in_ok-key_of.ensures ∙ ap (named_player unit) c.deref.ensures.value) c.loop-who.invariant

pub returns : goal.returns
returns c =
    let unit = c.args.self.now.hundredths in
    let seats = c.seats-seats.result.now in
    let end : c.loop-who.who-index ≡ length seats = omega arith in
    c.loop-who.invariant ∙ ap (λ n. of_seats unit (take n seats)) end ∙ ap (of_seats unit) (take-length seats)
    ∙ ap (map (λ who. named_player unit who.1)) c.seats-seats.ensures
