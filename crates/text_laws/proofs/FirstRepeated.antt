-- The first card that stands twice.
use Rattle.std.proofs.Common.{◌≡◌, ℕ, Bool, true, false, cond, List, [], ◌∷◌, ◌++◌, refl, sym, ap, ◌∙◌, Some, None, append_assoc, append-nil}
use Rattle.std.specs.Prelude.{Option, is_none}
use mathlib.Core.Bool.{true≢false}
use Rattle.card_sets.specs.Cards.{has_card}
use Rattle.spot_text.specs.Spot.{all_differ, repeated_after}
use Rattle.spot_text.proofs.CallerLemmas.{none_repeated}

-- cards of which none stands among those before it, and others after them
repeated_behind : (before xs ys : List ℕ) → repeated_after before xs ≡ None →
    repeated_after before (xs ++ ys) ≡ repeated_after (before ++ xs) ys
repeated_behind before [] ys h = ap (λ b. repeated_after b ys) (sym (append-nil before))
repeated_behind before (x ∷ xs) ys h = at (has_card before x) h (repeated_behind (before ++ x ∷ []) xs ys)
  where
    at : (b : Bool) → cond b (Some x) (repeated_after (before ++ x ∷ []) xs) ≡ None →
        (repeated_after (before ++ x ∷ []) xs ≡ None → repeated_after (before ++ x ∷ []) (xs ++ ys) ≡ repeated_after ((before ++ x ∷ []) ++ xs) ys) →
        cond b (Some x) (repeated_after (before ++ x ∷ []) (xs ++ ys)) ≡ repeated_after (before ++ x ∷ xs) ys
    at true none rest = cc
    at false none rest = rest none ∙ ap (λ b. repeated_after b ys) (append_assoc before (x ∷ []) xs)

is_none-None : (o : Option ℕ) → is_none o ≡ true → o ≡ None
is_none-None None h = refl
is_none-None (Some x) h = absurd (true≢false (sym h))

pub none_where_all_differ : (cards : List ℕ) → all_differ cards ≡ true → repeated_after [] cards ≡ None
none_where_all_differ cards h = is_none-None (repeated_after [] cards) (none_repeated cards ∙ h)

pub first_repeated : (front others : List ℕ) (card : ℕ) → all_differ front ≡ true → has_card front card ≡ true →
    repeated_after [] (front ++ card ∷ others) ≡ Some card
first_repeated front others card differ held =
    let stops : repeated_after front (card ∷ others) ≡ Some card = rw held refl in
    repeated_behind [] front (card ∷ others) (none_where_all_differ front differ) ∙ stops
