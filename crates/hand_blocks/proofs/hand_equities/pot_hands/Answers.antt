use Rattle.std.proofs.Common.{ℕ, List, sym, subst}
use Rattle.card_sets.specs.PlayerSetLaws.{AreBelow-hands_below}
use Rattle.card_sets.specs.PlayerSets.{AreBelow}
use Rattle.hand_blocks.proofs.hand_equities.pot_hands.Goals as goal

pub returns-clause-few : goal.returns-clause-few
returns-clause-few c = subst (λ (ps : List ℕ). AreBelow 10 ps) (sym c.below.ensures.hands) (AreBelow-hands_below c.of.result 10)
