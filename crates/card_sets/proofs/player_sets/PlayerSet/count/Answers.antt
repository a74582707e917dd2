use Rattle.std.proofs.Common.{sym}
use Rattle.card_sets.specs.PlayerSetLaws.{length-players_in}
use Rattle.card_sets.proofs.player_sets.PlayerSet.count.Goals as goal

pub returns-clause-value : goal.returns-clause-value
returns-clause-value c = rw (← c.self.view_is) (sym (length-players_in c.self.inside.bits c.self.invariant))
