use Rattle.card_sets.specs.PlayerSetLaws.{below_bits, players_in-below}
use Rattle.card_sets.proofs.player_sets.PlayerSet.below.Goals as goal

pub returns-clause-value : goal.returns-clause-value
returns-clause-value c = rw (← c.self.view_is) (below_bits c.self.inside.bits c.args.count c.requires)

pub returns-clause-hands : goal.returns-clause-hands
returns-clause-hands c = rw (← c.self.view_is, below_bits c.self.inside.bits c.args.count c.requires) (players_in-below c.self.inside.bits c.args.count c.requires)
