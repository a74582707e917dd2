use Rattle.std.proofs.Common.{sym, ap, arith}
use Rattle.std.specs.Prelude.{slice_get}
use Rattle.card_sets.specs.PlayerSetLaws.{lowest_player, players_in-none}
use Rattle.card_sets.proofs.player_sets.PlayerSet.first.Goals as goal

pub returns-then-self-eq0-clause-value : goal.returns-then-self-eq0-clause-value
returns-then-self-eq0-clause-value c = rw (← c.self.view_is) (sym (ap (λ xs. slice_get xs 0) (players_in-none c.self.inside.bits c.if-self-eq0.true)))

pub returns-clause-value : goal.returns-clause-value
returns-clause-value c = rw (← c.self.view_is) (sym (ap (λ xs. slice_get xs 0) (lowest_player c.self.inside.bits (omega arith) c.self.invariant).1))

pub returns-clause-bound : goal.returns-clause-bound
returns-clause-bound c = (lowest_player c.self.inside.bits (omega arith) c.self.invariant).0
