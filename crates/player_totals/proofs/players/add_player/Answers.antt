use Rattle.std.proofs.Common.{sym, ◌∙◌}
use Rattle.player_totals.specs.TotalsSeen.{player_of}
use Rattle.player_totals.proofs.PlayerFacts.{player_new, player_there}
use Rattle.player_totals.proofs.players.add_player.Goals as goal

pub returns-then-has-clause-added : goal.returns-then-has-clause-added
returns-then-has-clause-added g c =
    player_there g.S.Sums.nothing (player_of c.args.key.now) c.args.players.now (sym c.has.ensures ∙ c.if-has.true)

pub push-requires : goal.push-requires
push-requires g c = sym c.has.ensures ∙ c.if-has.false

pub returns-clause-added : goal.returns-clause-added
returns-clause-added g c =
    rw (player_new g.S.Sums.nothing (player_of c.args.key.now) c.args.players.now (sym c.has.ensures ∙ c.if-has.false)) at c.push.ensures.added
