use Rattle.std.proofs.Common.{ap, ◌∙◌, arith}
use Rattle.card_sets.specs.Cards.{with_card}
use Rattle.made_hands.proofs.DifferentCards.{with_next}
use Rattle.made_hands.proofs.deals.set_of.Goals as goal

pub loop-card-preserved : goal.loop-card-preserved
loop-card-preserved c =
    c.with-set.ensures ∙ ap (λ s. with_card s c.card-item.result) c.loop-card.invariant
    ∙ with_next c.args.cards.now c.loop-card.card-index c.card-item.result (omega arith) c.card-item.is
