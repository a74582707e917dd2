use Rattle.std.proofs.lemmas.Nat.{or_lt, one_shl, pow_below}
use Rattle.card_sets.specs.PlayerSetLaws.{with_bit}
use Rattle.card_sets.proofs.player_sets.PlayerSet.with.Goals as goal

pub invariant_of-result : goal.invariant_of-result
invariant_of-result c =
    or_lt 16 c.self.inside.bits _ c.self.invariant
    (rw (one_shl c.args.player 16 c.requires) (pow_below c.args.player 16 c.requires))

pub returns : goal.returns
returns c = rw (← c.self.view_is) (with_bit c.self.inside.bits c.args.player c.self.invariant c.requires)
