use Rattle.std.proofs.Common.{◌≡◌, ◌++◌, take}
use Rattle.std.specs.Prelude.{codes}
use Rattle.std.specs.List.{flat_map}
use Rattle.card_sets.specs.CardText.{text_of_card}
use Rattle.made_hands.proofs.pieces.write_later_cards.Given as goal

abbrev pub invariant-loop-card : goal.invariant-loop-card
invariant-loop-card l = l.out.items ≡ l.fn.out.items ++ flat_map (λ card. codes " " ++ text_of_card card) (take l.card-index l.cards)
