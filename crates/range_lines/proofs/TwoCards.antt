-- The set of two cards.
use Rattle.std.proofs.Common.{◌≡◌, ℕ, [], ◌∷◌, sym, ap, ◌∙◌}
use Rattle.card_sets.specs.Cards.{with_card}
use Rattle.spot_text.specs.Parts.{set_of}
use Rattle.spot_text.proofs.CallerLemmas.{set_of-nil, set_of_more}

pub two_cards : (low high : ℕ) → with_card (with_card [] low) high ≡ set_of (low ∷ high ∷ [])
two_cards low high =
    ap (λ s. with_card (with_card s low) high) (sym set_of-nil)
    ∙ ap (λ s. with_card s high) (set_of_more [] low)
    ∙ set_of_more (low ∷ []) high
