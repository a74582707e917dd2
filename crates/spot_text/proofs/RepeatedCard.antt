-- Whether a card stands twice.
use Rattle.std.proofs.Common.{◌≡◌, ℕ, Bool, true, false, cond, ◌||◌, ◌&&◌, ◌==◌, not, List, [], ◌∷◌, ◌++◌, refl, ap, ◌∙◌, Some}
use Rattle.std.specs.Prelude.{is_none}
use Rattle.std.specs.List.{list_all}
use Rattle.card_sets.specs.Cards.{has_card}
use Rattle.card_sets.specs.Rising.{has_card-push}
use Rattle.spot_text.specs.Spot.{all_differ, repeated_after}

-- none of some cards is in a list
abbrev fresh : List ℕ → List ℕ → Bool
fresh before cards = list_all (λ k. not (has_card before k)) cards

fresh_push : (before cards : List ℕ) (x : ℕ) → fresh (before ++ x ∷ []) cards ≡ (not (has_card cards x) && fresh before cards)
fresh_push before [] x = refl
fresh_push before (k ∷ cards) x =
    ap (λ b. not b && fresh (before ++ x ∷ []) cards) (has_card-push before x k)
    ∙ ap (λ b. not ((k == x) || has_card before k) && b) (fresh_push before cards x)
    ∙ mixed (k == x) (has_card before k) (has_card cards x) (fresh before cards)
  where
    mixed : (a b c d : Bool) → (not (a || b) && (not c && d)) ≡ (not (a || c) && (not b && d))
    mixed true b c d = refl
    mixed false true true d = refl
    mixed false true false d = refl
    mixed false false c d = refl

none_after : (before cards : List ℕ) → is_none (repeated_after before cards) ≡ (all_differ cards && fresh before cards)
none_after before [] = refl
none_after before (x ∷ cards) = at (has_card before x) (has_card cards x) (all_differ cards) (fresh before cards)
    (none_after (before ++ x ∷ []) cards ∙ ap (λ b. all_differ cards && b) (fresh_push before cards x))
  where
    at : (h c d f : Bool) → is_none (repeated_after (before ++ x ∷ []) cards) ≡ (d && (not c && f)) →
        is_none (cond h (Some x) (repeated_after (before ++ x ∷ []) cards)) ≡ ((not c && d) && (not h && f))
    at true true d f e = refl
    at true false true f e = refl
    at true false false f e = refl
    at false true true f e = e
    at false true false f e = e
    at false false d f e = e

fresh_first : (cards : List ℕ) → fresh [] cards ≡ true
fresh_first [] = refl
fresh_first (x ∷ cards) = fresh_first cards

pub none_repeated : (cards : List ℕ) → is_none (repeated_after [] cards) ≡ all_differ cards
none_repeated cards =
    none_after [] cards ∙ ap (λ b. all_differ cards && b) (fresh_first cards) ∙ both (all_differ cards)
  where
    both : (b : Bool) → (b && true) ≡ b
    both true = refl
    both false = refl
