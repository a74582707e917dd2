-- Sets of cards that a loop over a bracket adds to or takes from, card by card.
use Rattle.std.proofs.Common.{◌≡◌, ℕ, ◌<◌, List, [], ◌∷◌, ◌++◌, refl, sym, ap, ◌∙◌, Bool, true, false, not, ◌||◌, ◌&&◌, ◌==◌, length, take, get_or, ◌+◌, arith}
use Rattle.std.proofs.lemmas.List.{take_more}
use Rattle.card_sets.specs.Cards.{has_card, with_card, without_card, union, minus, IsCardSet}
use Rattle.card_sets.specs.Bits.{cards_where_same, has-cards_where}
use Rattle.card_sets.specs.Rising.{has_card-push}

or-none : (a : Bool) → (a || false) ≡ a
or-none true = refl
or-none false = refl

or-more : (a b c : Bool) → (c || (a || b)) ≡ (a || (c || b))
or-more true b true = refl
or-more true b false = refl
or-more false b true = refl
or-more false b false = refl

pub union-nil : (s : List ℕ) → IsCardSet s → union s [] ≡ s
union-nil s set = cards_where_same _ _ (λ k h. or-none (has_card s k)) ∙ set

pub union-push : (s xs : List ℕ) (x : ℕ) → with_card (union s xs) x ≡ union s (xs ++ x ∷ [])
union-push s xs x = cards_where_same _ _ (λ k h.
    rw (has-cards_where (λ j. has_card s j || has_card xs j) k h, has_card-push xs x k) (or-more (has_card s k) (has_card xs k) (k == x)))

-- a loop over a bracket
pub union_next : (s cards all : List ℕ) (i x : ℕ) → all ≡ union s (take i cards) → i < length cards → x ≡ get_or cards i x → with_card all x ≡ union s (take (i + 1) cards)
union_next s cards all i x is h item =
    rw is (union-push s (take i cards) x ∙ ap (union s) (sym (take_more cards i x h ∙ ap (λ y. take i cards ++ y ∷ []) (sym item))))

-- a bracket's first card put into the set before the others
pub union-front : (s xs : List ℕ) (x : ℕ) → union s (x ∷ xs) ≡ union (with_card s x) xs
union-front s xs x = cards_where_same _ _ (λ k h. rw (has-cards_where (λ j. (j == x) || has_card s j) k h) (front (has_card s k) (has_card xs k) (x == k) (k == x) (turned x k)))
  where
    turned : (x k : ℕ) → (x == k) ≡ (k == x)
    turned x k = grind arith

    front : (a b c d : Bool) → c ≡ d → (a || (c || b)) ≡ ((d || a) || b)
    front true b true d e = rw (← e) refl
    front true b false d e = rw (← e) refl
    front false b true d e = rw (← e) refl
    front false b false d e = rw (← e) refl

-- a set less nothing is the set
pub minus-nil : (s : List ℕ) → IsCardSet s → minus s [] ≡ s
minus-nil s set = cards_where_same _ _ (λ k l. all (has_card s k)) ∙ set
  where
    all : (b : Bool) → (b && not false) ≡ b
    all true = refl
    all false = refl

-- a loop that takes the cards of a bracket out of a set
minus-more : (a b c : Bool) → (not c && (a && not b)) ≡ (a && not (c || b))
minus-more true true true = refl
minus-more true true false = refl
minus-more true false true = refl
minus-more true false false = refl
minus-more false b true = refl
minus-more false b false = refl

pub minus-push : (s xs : List ℕ) (x : ℕ) → without_card (minus s xs) x ≡ minus s (xs ++ x ∷ [])
minus-push s xs x = cards_where_same _ _ (λ k h.
    rw (has-cards_where (λ j. has_card s j && not (has_card xs j)) k h, has_card-push xs x k) (minus-more (has_card s k) (has_card xs k) (k == x)))

pub minus_next : (s cards left : List ℕ) (i x : ℕ) → left ≡ minus s (take i cards) → i < length cards → x ≡ get_or cards i x → without_card left x ≡ minus s (take (i + 1) cards)
minus_next s cards left i x is h item =
    rw is (minus-push s (take i cards) x ∙ ap (minus s) (sym (take_more cards i x h ∙ ap (λ y. take i cards ++ y ∷ []) (sym item))))
