use Rattle.card_sets.specs.PlayerSetLaws.{without_bit}
use Rattle.card_sets.proofs.player_sets.PlayerSet.without.Goals as goal

pub returns : goal.returns
returns c = rw (← c.self.view_is) (without_bit c.self.inside.bits c.args.player c.self.invariant c.requires)
