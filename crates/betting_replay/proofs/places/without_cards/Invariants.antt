use Rattle.std.specs.Prelude.{◌≡◌, take}
use Rattle.card_sets.specs.Cards.{minus}
use Rattle.betting_replay.proofs.places.without_cards.Given as goal

abbrev pub invariant-loop-card : goal.invariant-loop-card
invariant-loop-card l = l.left ≡ minus l.fn.set (take l.card-index l.cards)
