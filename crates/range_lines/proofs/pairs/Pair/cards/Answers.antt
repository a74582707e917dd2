use Rattle.std.proofs.Common.{ap, ◌∙◌}
use Rattle.card_sets.specs.Cards.{with_card}
use Rattle.range_lines.proofs.TwoCards.{two_cards}
use Rattle.range_lines.proofs.pairs.Pair.cards.Goals as goal

pub returns : goal.returns
returns c =
    c.with-2.ensures ∙ ap (λ s. with_card s c.args.self.now.high) (c.with.ensures ∙ ap (λ s. with_card s c.args.self.now.low) c.empty.ensures)
    ∙ two_cards c.args.self.now.low c.args.self.now.high
