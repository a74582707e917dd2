use Rattle.std.proofs.Common.{take, length, ap, sym, ◌∙◌}
use Rattle.player_totals.specs.SumsSeen.{with_player}
use Rattle.player_totals.proofs.LineupFacts.{added_more, added_same, kept_both, player_key}
use Rattle.player_totals.proofs.players.add_each_player.Goals as goal
use Rattle.player_totals.proofs.players.add_each_player.Goals.{in-Some+in_ok-add_player, in_default}

pub loop-place-preserved : goal.loop-place-preserved
loop-place-preserved g c =
    let lineup = c.args.lineup.now in
    let before = c.args.players.now in
    elim c.match-player_at.branch [
      | in-Some+in_ok-add_player w ↦ record {
        added = added_more g.S.Sums.laws lineup.hundredths lineup.names.now lineup.players c.loop-place.place _ before c.loop-place.players _
            (sym w.in-Some.ensures) c.loop-place.invariant.added
            (w.players-is ∙ w.in_ok-add_player.ensures.added
            ∙ ap (with_player g.S.Sums.nothing c.loop-place.players)
            (player_key _ lineup.names.now lineup.players c.loop-place.place _ c.args.keys.now w.index-keys-place.result c.requires.keys (sym w.in-Some.ensures) w.index-keys-place.is));
        kept = kept_both before c.loop-place.players _ c.loop-place.invariant.kept
            (ap (λ players. take (length c.loop-place.players) players) w.players-is ∙ w.add_player.ensures.kept);
      }
      | in_default w ↦ record {
        added = w.players-is
            ∙ added_same g.S.Sums.laws lineup.hundredths lineup.names.now lineup.players c.loop-place.place before c.loop-place.players (sym w.in_default.ensures) c.loop-place.invariant.added;
        kept = ap (λ players. take (length before) players) w.players-is ∙ c.loop-place.invariant.kept;
      }
    ]
