use Rattle.card_sets.specs.Bits.{apart_bits}
use Rattle.card_sets.proofs.sets.CardSet.is_apart.Goals as goal

pub returns : goal.returns
returns c = rw (← c.self.view_is, ← c.other.view_is) (apart_bits c.self.inside.bits c.other.inside.bits c.self.invariant)
