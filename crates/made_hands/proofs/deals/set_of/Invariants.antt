use Rattle.std.proofs.Common.{◌≡◌, [], take}
use Rattle.card_sets.specs.Cards.{union}
use Rattle.made_hands.proofs.deals.set_of.Given as goal

abbrev pub invariant-loop-card : goal.invariant-loop-card
invariant-loop-card l = l.set ≡ union [] (take l.card-index l.cards)
