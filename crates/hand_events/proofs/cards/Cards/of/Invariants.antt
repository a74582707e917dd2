use Rattle.std.proofs.Common.{◌≡◌, take}
use Rattle.hand_events.proofs.cards.Cards.of.Given as goal

abbrev pub invariant-loop-card : goal.invariant-loop-card
invariant-loop-card l = l.all ≡ take l.card-index l.cards
