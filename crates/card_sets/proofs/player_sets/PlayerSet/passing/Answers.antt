use Rattle.std.proofs.Common.{◌≡◌, ◌<◌, sym, ap, ◌∙◌, true, arith, rules}
use Rattle.card_sets.specs.PlayerSets.{with_player}
use Rattle.card_sets.specs.PlayerSetLaws.{with_player-next}
use Rattle.card_sets.proofs.player_sets.PlayerSet.passing.Goals as goal

pub loop-player-preserved : goal.loop-player-preserved
loop-player-preserved g c = λ passes good.
    let inside : c.loop-player.player < c.args.end = search rules in
    let room : c.loop-player.player < 16 = (let few = c.requires.few in omega (arith, inside, few)) in
    let pass : passes c.loop-player.player ≡ true = sym (good c.loop-player.player c.test.result inside c.test.ensures) ∙ search rules in
    c.with-set.ensures ∙ ap (λ set. with_player set c.loop-player.player) (c.loop-player.invariant passes good) ∙ with_player-next passes c.loop-player.player room pass
