-- Cards that differ, in two lists: the sets of the two are apart.
use Rattle.std.proofs.Common.{◌≡◌, ℕ, true, false, not, ◌||◌, ◌==◌, List, [], ◌∷◌, ◌++◌, refl, sym, ◌∙◌, subst, inl, inr, arith}
use Rattle.std.proofs.lemmas.Bool.{cases_lt, not-true}
use Rattle.std.proofs.lemmas.List.Folds.{list_any-append}
use mathlib.Core.Bool.{true≢false}
use Rattle.card_sets.specs.Bits.{has-cards_where}
use Rattle.card_sets.specs.Cards.{has_card}
use Rattle.card_sets.specs.Disjoint.{apart}
use Rattle.card_sets.specs.Rising.{IsRising-cards_where}
use Rattle.card_sets.proofs.CallerLemmas.{and_first, and_second, false_unless, or_either, or_first, or_second, has_past, NoneIn, apart-NoneIn}
use Rattle.spot_text.specs.Parts.{set_of}
use Rattle.spot_text.specs.Spot.{all_differ}

-- cards that differ, in two lists
pub differ_append : (xs ys : List ℕ) → all_differ (xs ++ ys) ≡ true → (all_differ xs ≡ true) × NoneIn xs ys
differ_append [] ys h = (refl, λ k held. absurd (true≢false (sym held)))
differ_append (x ∷ xs) ys h =
    let rest = differ_append xs ys (and_second (not (has_card (xs ++ ys) x)) (all_differ (xs ++ ys)) h) in
    let out : has_card (xs ++ ys) x ≡ false = not-true (has_card (xs ++ ys) x) (and_first (not (has_card (xs ++ ys) x)) (all_differ (xs ++ ys)) h) in
    let both : (has_card xs x || has_card ys x) ≡ false = sym (list_any-append (λ c. c == x) xs ys) ∙ out in
    let first : has_card xs x ≡ false = or_first (has_card xs x) (has_card ys x) both in
    let second : has_card ys x ≡ false = or_second (has_card xs x) (has_card ys x) both in (
      rw (first, rest.0) refl,
      λ k held. elim (or_either (x == k) (has_card xs k) held) [
        | inl same ↦ let e : x ≡ k = grind arith in subst (λ j. has_card ys j ≡ false) e second
        | inr other ↦ rest.1 k other
      ],
    )

set_has : (cards : List ℕ) (k : ℕ) → has_card (set_of cards) k ≡ true → has_card cards k ≡ true
set_has cards k held = elim (cases_lt k 52) [
  | inl inside ↦ sym (has-cards_where (has_card cards) k inside) ∙ held
  | inr past ↦ absurd (true≢false (sym held ∙ has_past 0 (set_of cards) k (IsRising-cards_where (has_card cards)) past))
]

pub sets_apart : (xs ys : List ℕ) → NoneIn xs ys → apart (set_of xs) (set_of ys) ≡ true
sets_apart xs ys h = apart-NoneIn (set_of xs) (set_of ys) (λ k held. false_unless (has_card (set_of ys) k) (λ now. sym (h k (set_has xs k held)) ∙ set_has ys k now))
