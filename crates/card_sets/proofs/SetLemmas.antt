-- Sets of cards: which share no card, what is in a union, a rest or a set by a test, and how many cards that are.
use Rattle.std.proofs.Common.{◌≡◌, ℕ, zero, suc, ◌+◌, ◌<◌, ◌==◌, ◌&&◌, ◌||◌, not, Bool, true, false, cond, refl, sym, ap, ◌∙◌, inl, inr, arith, List, [], ◌∷◌, length, length-append, ◌≤◌, ◌++◌, subst, ◌⊎◌, set}
use mathlib.Core.Bool.{true≢false}
use Rattle.card_sets.specs.Cards.{has_card, cards_where, cards_below, union, IsCardSet, RisingFrom, with_card, minus}
use Rattle.card_sets.specs.Bits.{has-cards_where, has_not, none-cards_where}
use Rattle.card_sets.specs.Rising.{IsRising-cards_where, IsCardSet-rising, rising-IsCardSet}
use Rattle.card_sets.specs.Disjoint.{apart}
use Rattle.std.specs.List.{list_all}
use Rattle.std.proofs.lemmas.Bool.{and_parts, or_left, or_right, cases_eq, cases_lt}
use Rattle.card_sets.proofs.TruthLemmas.{or_either, not_true, and_first, and_second}

-- no card is in both
abbrev pub Apart : List ℕ → List ℕ → Type 0
Apart a b = (k : ℕ) → has_card a k ≡ true → has_card b k ≡ true → ⊥

pub Apart-sym : (a b : List ℕ) → Apart a b → Apart b a
Apart-sym a b h k x y = h k y x

one-or : (p q : Bool) (n : ℕ) → (p ≡ true → q ≡ true → ⊥) → length (cond (p || q) (n ∷ []) []) ≡ length (cond p (n ∷ []) []) + length (cond q (n ∷ []) [])
one-or true true n h = absurd (h refl refl)
one-or true false n h = refl
one-or false true n h = refl
one-or false false n h = refl

length-or : (p q : ℕ → Bool) (n : ℕ) → ((k : ℕ) → p k ≡ true → q k ≡ true → ⊥) → length (cards_below (λ k. p k || q k) n) ≡ length (cards_below p n) + length (cards_below q n)
length-or p q zero h = refl
length-or p q (suc n) h =
    omega (
      arith,
      length-or p q n h,
      one-or (p n) (q n) n (h n),
      length-append (cards_below (λ k. p k || q k) n) (cond (p n || q n) (n ∷ []) []),
      length-append (cards_below p n) (cond (p n) (n ∷ []) []),
      length-append (cards_below q n) (cond (q n) (n ∷ []) []),
    )

pub length-union : (a b : List ℕ) → IsCardSet a → IsCardSet b → Apart a b → length (union a b) ≡ length a + length b
unfolding cards_where
length-union a b x y h = omega (arith, length-or (has_card a) (has_card b) 52 h, ap length x, ap length y)

pub Apart-apart : (a b : List ℕ) → apart a b ≡ true → Apart a b
Apart-apart [] b h k x y = true≢false (sym x)
Apart-apart (c ∷ a) b h k x y =
    let hs = and_parts (not (has_card b c)) (apart a b) h in
    elim (cases_eq c k) [
      | inl e ↦ not_true (has_card b c) hs.0 (ap (has_card b) e ∙ y)
      | inr ne ↦ let f : (c == k) ≡ false = grind arith in Apart-apart a b hs.1 k (rw f at x) y
    ]

no_card : (b : Bool) → (b ≡ true → ⊥) → not b ≡ true
no_card true h = absurd (h refl)
no_card false h = refl

pub apart-Apart : (a b : List ℕ) → Apart a b → apart a b ≡ true
apart-Apart [] b h = refl
apart-Apart (c ∷ a) b h =
    let here : (c == c) ≡ true = grind arith in
    let first : not (has_card b c) ≡ true = no_card (has_card b c) (h c (rw here refl)) in
    let rest : apart a b ≡ true = apart-Apart a b (λ k x y. h k (later (c == k) (has_card a k) x) y) in
    rw (first, rest) refl
  where
    later : (x y : Bool) → y ≡ true → (x || y) ≡ true
    later true y e = refl
    later false y e = e

-- a card of a set is of the deck
pub has_card-bound : (low : ℕ) (xs : List ℕ) (k : ℕ) → RisingFrom low xs → has_card xs k ≡ true → k < 52
has_card-bound low [] k r h = absurd (true≢false (sym h))
has_card-bound low (x ∷ xs) k r h = elim (cases_eq x k) [
  | inl e ↦ omega arith
  | inr ne ↦ let f : (x == k) ≡ false = grind arith in has_card-bound (x + 1) xs k r.2 (rw f at h)
]

either : (x y : Bool) → (x || y) ≡ true → (x ≡ true → ⊥) → y ≡ true
either true y h n = absurd (n refl)
either false y h n = h

pub Apart-union : (a b c : List ℕ) → Apart a c → Apart b c → Apart (union a b) c
Apart-union a b c x y k h z =
    let inside : k < 52 = has_card-bound 0 (union a b) k (IsRising-cards_where (λ k. has_card a k || has_card b k)) h in
    let one : (has_card a k || has_card b k) ≡ true = sym (has-cards_where (λ k. has_card a k || has_card b k) k inside) ∙ h in
    y k (either (has_card a k) (has_card b k) one (λ e. x k e z)) z

pub union-IsCardSet : (a b : List ℕ) → IsCardSet (union a b)
union-IsCardSet a b = rising-IsCardSet (union a b) (IsRising-cards_where (λ k. has_card a k || has_card b k))

-- what passes for all cards of a list passes for each, and the other way round
pub all_has : (p : ℕ → Bool) (xs : List ℕ) → list_all p xs ≡ true → (k : ℕ) → has_card xs k ≡ true → p k ≡ true
all_has p [] all k h = absurd (true≢false (sym h))
all_has p (x ∷ xs) all k h =
    let two = and_parts (p x) (list_all p xs) all in
    elim (cases_eq x k) [
      | inl e ↦ ap p (sym e) ∙ two.0
      | inr ne ↦ (let no : (x == k) ≡ false = grind arith in all_has p xs two.1 k (rw no at h))
    ]

pub has_all : (p : ℕ → Bool) (xs : List ℕ) → ((k : ℕ) → has_card xs k ≡ true → p k ≡ true) → list_all p xs ≡ true
has_all p [] h = refl
has_all p (x ∷ xs) h =
    let t : (x == x) ≡ true = grind arith in
    let first : p x ≡ true = h x (rw t refl) in
    let rest : list_all p xs ≡ true = has_all p xs (λ k m. h k (or_right (x == k) (has_card xs k) m)) in
    rw (first, rest) refl

pub has_union : (a b : List ℕ) (k : ℕ) → k < 52 → has_card (union a b) k ≡ (has_card a k || has_card b k)
has_union a b k l = has-cards_where (λ k. has_card a k || has_card b k) k l

-- what passes for all cards of a union passes for those of both
pub all-union : (p : ℕ → Bool) (a b : List ℕ) → IsCardSet a → IsCardSet b → list_all p (union a b) ≡ true → (list_all p a ≡ true) × (list_all p b ≡ true)
all-union p a b x y all = (
  has_all p a (λ k h. all_has p (union a b) all k (has_union a b k (has_card-bound 0 a k (IsCardSet-rising a x) h) ∙ or_left (has_card a k) (has_card b k) h)),
  has_all p b (λ k h. all_has p (union a b) all k (has_union a b k (has_card-bound 0 b k (IsCardSet-rising b y) h) ∙ or_right (has_card a k) (has_card b k) h)),
)

-- a card of the deck that passes is in the set, and no other is
pub in_where : (test : ℕ → Bool) (k : ℕ) → has_card (cards_where test) k ≡ true → (k < 52) × (test k ≡ true)
unfolding cards_where
in_where test k h = elim (cases_lt k 52) [
  | inl l ↦ (l, sym (has-cards_where test k l) ∙ h)
  | inr ge ↦ absurd (true≢false (sym h ∙ has_not test 52 k ge))
]

pub where_in : (test : ℕ → Bool) (k : ℕ) → k < 52 → test k ≡ true → has_card (cards_where test) k ≡ true
where_in test k l h = has-cards_where test k l ∙ h

-- a card of two sets together
pub in_union : (a b : List ℕ) (k : ℕ) → has_card (union a b) k ≡ true → (k < 52) × ((has_card a k ≡ true) ⊎ (has_card b k ≡ true))
in_union a b k h = let w = in_where (λ j. has_card a j || has_card b j) k h in (w.0, or_either (has_card a k) (has_card b k) w.1)

pub union_left : (a b : List ℕ) (k : ℕ) → k < 52 → has_card a k ≡ true → has_card (union a b) k ≡ true
union_left a b k l h = where_in (λ j. has_card a j || has_card b j) k l (or_left (has_card a k) (has_card b k) h)

pub union_right : (a b : List ℕ) (k : ℕ) → k < 52 → has_card b k ≡ true → has_card (union a b) k ≡ true
union_right a b k l h = where_in (λ j. has_card a j || has_card b j) k l (or_right (has_card a k) (has_card b k) h)

-- a card of a set less others
pub in_minus : (a b : List ℕ) (k : ℕ) → has_card (minus a b) k ≡ true → (k < 52) × (has_card a k ≡ true) × (has_card b k ≡ true → ⊥)
in_minus a b k h =
    let w = in_where (λ j. has_card a j && not (has_card b j)) k h in
    let s = and_parts (has_card a k) (not (has_card b k)) w.1 in
    (w.0, s.0, not_true (has_card b k) s.1)

pub no_cards : IsCardSet []
no_cards = none-cards_where (has_card []) (λ k l. refl)

pub no_more : union [] [] ≡ []
no_more = none-cards_where (λ k. has_card [] k || has_card [] k) (λ k l. refl)

-- a card of a set is of the deck
pub of_deck : (s : List ℕ) (k : ℕ) → IsCardSet s → has_card s k ≡ true → k < 52
of_deck s k set h = (in_where (has_card s) k (ap (λ xs. has_card xs k) set ∙ h)).0

-- how many cards pass a test
fewer_below : (p q : ℕ → Bool) (n : ℕ) → ((k : ℕ) → p k ≡ true → q k ≡ true) → length (cards_below p n) ≤ length (cards_below q n)
fewer_below p q zero h = omega arith
fewer_below p q (suc n) h =
    let rest : length (cards_below p n) ≤ length (cards_below q n) = fewer_below p q n h in
    let a : length (cards_below p n ++ cond (p n) (n ∷ []) []) ≡ length (cards_below p n) + length (cond (p n) (n ∷ []) []) = length-append (cards_below p n) (cond (p n) (n ∷ []) []) in
    let b : length (cards_below q n ++ cond (q n) (n ∷ []) []) ≡ length (cards_below q n) + length (cond (q n) (n ∷ []) []) = length-append (cards_below q n) (cond (q n) (n ∷ []) []) in
    omega (arith, a, b, rest, one (p n) (q n) n (h n))
  where
    one : (x y : Bool) (n : ℕ) → (x ≡ true → y ≡ true) → length (cond x (n ∷ []) []) ≤ length (cond y (n ∷ []) [])
    one true true n h = omega arith
    one true false n h = absurd (true≢false (sym (h refl)))
    one false true n h = omega arith
    one false false n h = omega arith

pub fewer_where : (p q : ℕ → Bool) → ((k : ℕ) → p k ≡ true → q k ≡ true) → length (cards_where p) ≤ length (cards_where q)
unfolding cards_where
fewer_where p q h = fewer_below p q 52 h

pub length-minus : (a b : List ℕ) → IsCardSet a → length (minus a b) ≤ length a
length-minus a b set =
    let less : length (minus a b) ≤ length (cards_where (has_card a)) = fewer_where (λ k. has_card a k && not (has_card b k)) (has_card a) (λ k h. (and_parts (has_card a k) (not (has_card b k)) h).0) in
    omega (arith, less, ap length set)

-- one card more
more_below : (q : ℕ → Bool) (c n : ℕ) → q c ≡ false → c < n → length (cards_below (λ k. (k == c) || q k) n) ≡ length (cards_below q n) + 1
more_below q c zero out l = absurd (omega arith)
more_below q c (suc n) out l =
    let a : length (cards_below (λ k. (k == c) || q k) n ++ cond ((n == c) || q n) (n ∷ []) []) ≡ length (cards_below (λ k. (k == c) || q k) n) + length (cond ((n == c) || q n) (n ∷ []) []) = length-append _ _ in
    let b : length (cards_below q n ++ cond (q n) (n ∷ []) []) ≡ length (cards_below q n) + length (cond (q n) (n ∷ []) []) = length-append _ _ in
    elim (cases_eq n c) [
      | inl e ↦
          let is : (n == c) ≡ true = grind arith in
          let none : q n ≡ false = ap q e ∙ out in
          let rest : length (cards_below (λ k. (k == c) || q k) n) ≡ length (cards_below q n) = same n e in
          let x : length (cond ((n == c) || q n) (n ∷ []) []) ≡ 1 = rw is refl in
          let y : length (cond (q n) (n ∷ []) []) ≡ 0 = rw none refl in
          omega (arith, a, b, rest, x, y)
      | inr ne ↦
          let no : (n == c) ≡ false = grind arith in
          let rest : length (cards_below (λ k. (k == c) || q k) n) ≡ length (cards_below q n) + 1 = more_below q c n out (omega arith) in
          let x : length (cond ((n == c) || q n) (n ∷ []) []) ≡ length (cond (q n) (n ∷ []) []) = rw no refl in
          omega (arith, a, b, rest, x)
    ]
  where
    below : (n m : ℕ) → m ≡ c → n ≤ m → cards_below (λ k. (k == c) || q k) n ≡ cards_below q n
    below zero m e h = refl
    below (suc n) m e h =
        let no : (n == c) ≡ false = grind arith in
        let rest : cards_below (λ k. (k == c) || q k) n ≡ cards_below q n = below n m e (omega arith) in
        rw (no, rest) refl

    same : (n : ℕ) → n ≡ c → length (cards_below (λ k. (k == c) || q k) n) ≡ length (cards_below q n)
    same n e = ap length (below n n e (omega arith))

pub length-with_card : (s : List ℕ) (c : ℕ) → IsCardSet s → has_card s c ≡ false → c < 52 → length (with_card s c) ≡ length s + 1
unfolding cards_where
length-with_card s c set out l = omega (arith, more_below (has_card s) c 52 out l, ap length set)

-- a card of a set that isn't among others
pub in_rest : (a b : List ℕ) (k : ℕ) → k < 52 → has_card a k ≡ true → (has_card b k ≡ true → ⊥) → has_card (minus a b) k ≡ true
in_rest a b k l has gone = where_in (λ j. has_card a j && not (has_card b j)) k l (one (has_card a k) (has_card b k) has gone)
  where
    one : (x y : Bool) → x ≡ true → (y ≡ true → ⊥) → (x && not y) ≡ true
    one true true x out = absurd (out refl)
    one true false x out = refl
    one false y x out = absurd (true≢false (sym x))

-- a card of one of two sets that share none isn't in the other
pub from_apart : (a b : List ℕ) (k : ℕ) → apart a b ≡ true → has_card a k ≡ true → has_card b k ≡ true → ⊥
from_apart a b k h = Apart-apart a b h k

-- a rising list has no number that isn't of the deck
pub has_past : (low : ℕ) (xs : List ℕ) (k : ℕ) → RisingFrom low xs → 52 ≤ k → has_card xs k ≡ false
has_past low [] k rising past = refl
has_past low (x ∷ xs) k rising past =
    let below : x < 52 = rising.1 in
    let other : (x == k) ≡ false = grind arith in
    rw other (has_past (x + 1) xs k rising.2 past)

-- no card of the first is in the second, said of its tests
abbrev pub NoneIn : List ℕ → List ℕ → Type 0
NoneIn a b = (k : ℕ) → has_card a k ≡ true → has_card b k ≡ false

pub apart-NoneIn : (a b : List ℕ) → NoneIn a b → apart a b ≡ true
apart-NoneIn [] b h = refl
apart-NoneIn (x ∷ a) b h =
    let here : (x == x) ≡ true = grind arith in
    let first : has_card b x ≡ false = h x (rw here refl) in
    rw first (apart-NoneIn a b (λ k held. h k (or_right (x == k) (has_card a k) held)))
