use Rattle.std.proofs.Common.{◌≡◌, ◌∙◌, ap, arith}
use Rattle.card_sets.specs.Cards.{cards_above, minus, deck}
use Rattle.omaha_ranks.proofs.LowCards.{without_high}
use Rattle.omaha_ranks.proofs.omaha.low_cards.Goals as goal

pub returns : goal.returns
returns c =
    let eight : c.in-Some-Some.eight ≡ 27 = omega (arith, c.in-Some-Some.ensures.1) in
    let king : c.in-Some-Some.king ≡ 47 = omega (arith, c.in-Some-Some.ensures'.1) in
    let above : c.above.result ≡ cards_above deck 27 = c.above.ensures ∙ ap (λ d. cards_above d c.in-Some-Some.eight) c.deck-deck.ensures ∙ ap (cards_above deck) eight in
    let last : c.above-2.result ≡ cards_above deck 47 = c.above-2.ensures ∙ ap (λ d. cards_above d c.in-Some-Some.king) c.deck-deck.ensures ∙ ap (cards_above deck) king in
    let high : c.minus.result ≡ minus c.above.result (cards_above deck 47) = c.minus.ensures.value ∙ ap (minus c.above.result) last in
    c.minus-2.ensures.value ∙ without_high c.args.s c.above.result c.minus.result c.rising.ensures.set above high
