-- Cards that are drawn one after the other are different cards.
use Rattle.std.proofs.Common.{◌≡◌, ℕ, zero, suc, ◌+◌, ◌<◌, ◌==◌, ◌&&◌, ◌||◌, not, Bool, true, false, refl, sym, ap, ◌∙◌, inl, inr, arith, List, [], ◌∷◌, ◌++◌, length, take, get_or, length-append}
use Rattle.std.specs.Prelude.{slice_index}
use Rattle.std.proofs.lemmas.Bool.{cases_eq, and_parts}
use Rattle.std.proofs.lemmas.List.{take_more}
use Rattle.std.proofs.lemmas.List.Folds.{list_any-append}
use mathlib.Core.Bool.{true≢false}
use Rattle.card_sets.specs.Cards.{has_card, cards_where, with_card, without_card, union, deck, cards_below, IsCardSet}
use Rattle.card_sets.specs.Bits.{has-cards_where, cards_where_same, IsCardSet-cards_where}
use Rattle.card_sets.specs.Rising.{has_card-push, rising-IsCardSet, IsCardSet-rising}
use Rattle.card_sets.proofs.CallerLemmas.{Apart, length-union, has_card-bound}

-- numbers of the deck, each once
abbrev pub Once : List ℕ → Type 0
Once [] = Unit {0}
Once (card ∷ cards) = (card < 52) × (has_card cards card ≡ false) × Once cards

length-below : (n : ℕ) → length (cards_below (λ k. true) n) ≡ n
length-below zero = refl
length-below (suc n) = omega (arith, length-append (cards_below (λ k. true) n) (n ∷ []), length-below n)

pub length-deck : length deck ≡ 52
unfolding cards_where
length-deck = length-below 52

one_card : (card : ℕ) → card < 52 → IsCardSet (card ∷ [])
one_card card inside = rising-IsCardSet (card ∷ []) (omega arith, inside, tt)

only : (card k : ℕ) → has_card (card ∷ []) k ≡ true → card ≡ k
only card k h = elim (cases_eq card k) [
  | inl e ↦ e
  | inr ne ↦ let f : (card == k) ≡ false = grind arith in absurd (true≢false (sym h ∙ rw f refl))
]

-- a list of one card more
pub length-more : (card : ℕ) (cards : List ℕ) → card < 52 → has_card cards card ≡ false →
    length (cards_where (has_card (card ∷ cards))) ≡ length (cards_where (has_card cards)) + 1
length-more card cards inside out =
    let rest = cards_where (has_card cards) in
    let apart : Apart (card ∷ []) rest = λ k x y.
    let same : card ≡ k = only card k x in
    true≢false (sym y ∙ sym (ap (λ c. has_card rest c) same) ∙ has-cards_where (has_card cards) card inside ∙ out) in
    let whole : cards_where (has_card (card ∷ cards)) ≡ union (card ∷ []) rest =
    cards_where_same _ _ (λ k h. rw (has-cards_where (has_card cards) k h) (split (card == k) (has_card cards k))) in
    let sum : length (union (card ∷ []) rest) ≡ 1 + length rest = length-union (card ∷ []) rest (one_card card inside) (IsCardSet-cards_where (has_card cards)) apart in
    omega (arith, ap length whole, sum)
  where
    split : (a b : Bool) → (a || b) ≡ ((a || false) || b)
    split true b = refl
    split false b = refl

pub length-once : (cards : List ℕ) → Once cards → length (cards_where (has_card cards)) ≡ length cards
length-once [] h = none
  where
    none : length (cards_where (has_card [])) ≡ 0
    none = ap length (rising-IsCardSet [] tt)
length-once (card ∷ cards) h = omega (arith, length-more card cards h.0 h.1, length-once cards h.2)

-- a list without a part of it
pub Once-behind : (front cards : List ℕ) → Once (front ++ cards) → Once cards
Once-behind [] cards h = h
Once-behind (card ∷ front) cards h = Once-behind front cards h.2

or_false : (a b : Bool) → (a || b) ≡ false → (a ≡ false) × (b ≡ false)
or_false true b h = absurd (true≢false h)
or_false false b h = (refl, h)

pub Once-without : (front middle cards : List ℕ) → Once (front ++ (middle ++ cards)) → Once (front ++ cards)
Once-without [] middle cards h = Once-behind middle cards h
Once-without (card ∷ front) middle cards h =
    let all : has_card (front ++ (middle ++ cards)) card ≡ false = h.1 in
    let first = or_false (has_card front card) (has_card (middle ++ cards) card) (sym (list_any-append (λ c. c == card) front (middle ++ cards)) ∙ all) in
    let second = or_false (has_card middle card) (has_card cards card) (sym (list_any-append (λ c. c == card) middle cards) ∙ first.1) in
    let none : has_card (front ++ cards) card ≡ false = list_any-append (λ c. c == card) front cards ∙ rw (first.0, second.1) refl in
    (h.0, none, Once-without front middle cards h.2)

-- two lists together
pub length-together : (a b : List ℕ) → Once (a ++ b) → length (union a b) ≡ length a + length b
length-together a b h =
    let whole : union a b ≡ cards_where (has_card (a ++ b)) = cards_where_same _ _ (λ k l. sym (list_any-append (λ c. c == k) a b)) in
    omega (arith, ap length whole, length-once (a ++ b) h, length-append a b)

-- a card that is in a set, and one that is taken out
pub has-slice_index : (cards : List ℕ) (place : ℕ) → place < length cards → has_card cards (slice_index cards place) ≡ true
has-slice_index [] place h = absurd (omega arith)
has-slice_index (card ∷ cards) zero h = let same : (card == card) ≡ true = grind arith in rw same refl
has-slice_index (card ∷ cards) (suc place) h = later (card == slice_index cards place) (has_card cards (slice_index cards place)) (has-slice_index cards place (omega arith))
  where
    later : (a b : Bool) → b ≡ true → (a || b) ≡ true
    later true b e = refl
    later false b e = e

pub of_deck : (cards : List ℕ) (card : ℕ) → IsCardSet cards → has_card cards card ≡ true → card < 52
of_deck cards card set h = has_card-bound 0 cards card (IsCardSet-rising cards set) h

pub has-without : (cards : List ℕ) (card k : ℕ) → k < 52 → has_card (without_card cards card) k ≡ (not (k == card) && has_card cards k)
has-without cards card k h = has-cards_where (λ j. not (j == card) && has_card cards j) k h

pub length-without : (cards : List ℕ) (card : ℕ) → IsCardSet cards → has_card cards card ≡ true → length (without_card cards card) + 1 ≡ length cards
length-without cards card set h =
    let inside : card < 52 = of_deck cards card set h in
    let rest = without_card cards card in
    let same : (card == card) ≡ true = grind arith in
    let out : has_card rest card ≡ false = has-without cards card card inside ∙ rw same refl in
    let whole : cards_where (has_card cards) ≡ cards_where (has_card (card ∷ rest)) =
    cards_where_same _ _ (λ k l. rw (has-without cards card k l) (elim (cases_eq card k) [
      | inl e ↦ let t : (card == k) ≡ true = grind arith in rw t (ap (λ c. has_card cards c) (sym e) ∙ h)
      | inr ne ↦ let f : (card == k) ≡ false = grind arith in let g : (k == card) ≡ false = grind arith in rw (f, g) refl
    ])) in
    let again : length (cards_where (has_card rest)) ≡ length rest = ap length (IsCardSet-cards_where (λ j. not (j == card) && has_card cards j)) in
    omega (arith, ap length set, ap length whole, length-more card rest inside out, again)

pub with_next : (cards : List ℕ) (place card : ℕ) → place < length cards → card ≡ get_or cards place card →
    with_card (union [] (take place cards)) card ≡ union [] (take (place + 1) cards)
with_next cards place card inside is =
    let more : take (place + 1) cards ≡ take place cards ++ card ∷ [] = take_more cards place card inside ∙ ap (λ c. take place cards ++ c ∷ []) (sym is) in
    cards_where_same _ _ (λ k h. rw (has-cards_where (has_card (take place cards)) k h, more) (sym (has_card-push (take place cards) card k)))

-- the sets of some cards together
union-sets : (a b : List ℕ) → union (union [] a) (union [] b) ≡ union a b
union-sets a b = cards_where_same _ _ (λ k h. rw (has-cards_where (has_card a) k h, has-cards_where (has_card b) k h) refl)

pub union-of : (a b one other and_parts : List ℕ) → and_parts ≡ union one other → one ≡ union [] a → other ≡ union [] b → and_parts ≡ union a b
union-of a b one other and_parts e f g = e ∙ ap (λ s. union s other) f ∙ ap (λ s. union (union [] a) s) g ∙ union-sets a b

-- three lists together
pub length-three : (a b c : List ℕ) → Once (a ++ (b ++ c)) → length (union (union a b) c) ≡ length (a ++ (b ++ c))
length-three a b c h =
    let whole : union (union a b) c ≡ cards_where (has_card (a ++ (b ++ c))) =
    cards_where_same _ _ (λ k l. has-cards_where-or k l ∙ or_assoc (has_card a k) (has_card b k) (has_card c k)
    ∙ sym (list_any-append (λ card. card == k) a (b ++ c) ∙ ap (λ t. has_card a k || t) (list_any-append (λ card. card == k) b c))) in
    omega (arith, ap length whole, length-once (a ++ (b ++ c)) h)
  where
    has-cards_where-or : (k : ℕ) → k < 52 → (has_card (union a b) k || has_card c k) ≡ ((has_card a k || has_card b k) || has_card c k)
    has-cards_where-or k l = ap (λ t. t || has_card c k) (has-cards_where (λ j. has_card a j || has_card b j) k l)

    or_assoc : (p q r : Bool) → ((p || q) || r) ≡ (p || (q || r))
    or_assoc true q r = refl
    or_assoc false q r = refl
