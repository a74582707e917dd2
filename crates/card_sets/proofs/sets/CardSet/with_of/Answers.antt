use Rattle.std.proofs.lemmas.Nat.{or_lt}
use Rattle.card_sets.specs.Bits.{with_of_bits, part_small}
use Rattle.card_sets.proofs.sets.CardSet.with_of.Goals as goal

pub invariant_of-result : goal.invariant_of-result
invariant_of-result c = or_lt 52 c.self.inside.bits _ c.self.invariant (part_small c.other.inside.bits _ c.other.invariant)

pub returns : goal.returns
returns c = rw (← c.self.view_is, ← c.other.view_is, ← c.number.ensures.value) (with_of_bits c.self.inside.bits c.other.inside.bits c.number.result c.number.ensures.in_deck)
