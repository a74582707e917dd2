use Rattle.card_sets.specs.Bits.{same_bits}
use Rattle.card_sets.proofs.sets.CardSetPartialEq.eq.Goals as goal

pub returns : goal.returns
returns c = rw (← c.self.view_is, ← c.other.view_is) (same_bits c.self.inside.bits c.other.inside.bits c.self.invariant c.other.invariant)
