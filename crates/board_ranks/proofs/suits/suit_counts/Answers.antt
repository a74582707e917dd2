use Rattle.std.proofs.Common.{◌≡◌, ℕ, zero, suc, ◌<◌, [], ◌∷◌, List, length, ap, ◌∙◌, arith, ◌==◌}
use Rattle.std.specs.Prelude.{slice_index}
use Rattle.std.proofs.lemmas.List.Sums.{length-filter}
use Rattle.card_sets.specs.Cards.{suit_of}
use Rattle.rank_high.specs.Parts.{count_of_suit}
use Rattle.board_ranks.proofs.suits.suit_counts.Goals as goal

four : (cards : List ℕ) (w x y z s : ℕ) → s < 4 → w ≡ count_of_suit cards 0 → x ≡ count_of_suit cards 1 → y ≡ count_of_suit cards 2 → z ≡ count_of_suit cards 3 → slice_index (w ∷ x ∷ y ∷ z ∷ []) s ≡ count_of_suit cards s
four cards w x y z zero l a b c d = a
four cards w x y z (suc zero) l a b c d = b
four cards w x y z (suc (suc zero)) l a b c d = c
four cards w x y z (suc (suc (suc zero))) l a b c d = d
four cards w x y z (suc (suc (suc (suc n)))) l a b c d = absurd (omega arith)

pub returns-clause-value : goal.returns-clause-value
returns-clause-value c = λ s l. four c.args.cards _ _ _ _ s l
    (c.count.ensures.value ∙ ap length c.of_suit.ensures ∙ length-filter (λ k. suit_of k == 0) c.args.cards)
    (c.count-2.ensures.value ∙ ap length c.of_suit-2.ensures ∙ length-filter (λ k. suit_of k == 1) c.args.cards)
    (c.count-3.ensures.value ∙ ap length c.of_suit-3.ensures ∙ length-filter (λ k. suit_of k == 2) c.args.cards)
    (c.count-4.ensures.value ∙ ap length c.of_suit-4.ensures ∙ length-filter (λ k. suit_of k == 3) c.args.cards)
