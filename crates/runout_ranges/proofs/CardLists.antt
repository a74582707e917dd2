-- Sets of cards as lists: what is left of one, a place in one, and two joined.
use Rattle.std.proofs.Common.{◌≡◌, ℕ, zero, suc, ◌+◌, ◌-◌, ◌<◌, ◌≤◌, List, [], ◌∷◌, ◌++◌, refl, sym, ap, ◌∙◌, inl, inr, length, take, arith, Bool, true, false, cond, ◌||◌, ◌&&◌, ◌==◌, not}
use Rattle.std.specs.Prelude.{filter, nat_lt, slice_get, Some}
use mathlib.Core.Bool.{true≢false}
use Rattle.std.proofs.lemmas.Bool.{cases_eq, cases_lt}
use Rattle.std.proofs.lemmas.List.Elements.{filter-append}
use Rattle.std.proofs.lemmas.List.Folds.{list_any-append}
use Rattle.card_sets.specs.Cards.{has_card, cards_below, cards_where, without_card, union, minus, cards_above, IsCardSet, IsRising, RisingFrom}
use Rattle.card_sets.specs.Bits.{cards_where_same}
use Rattle.card_sets.specs.Rising.{has_card-low, RisingFrom-lower, rising-IsCardSet}
use Rattle.runout_ranges.specs.Runouts.{left_by}
use Rattle.runout_ranges.proofs.NextChoice.{later_above}

filter_one : (b : Bool) (q : ℕ → Bool) (n : ℕ) → filter q (cond b (n ∷ []) []) ≡ cond (b && q n) (n ∷ []) []
filter_one true q n = refl
filter_one false q n = refl

filter_below : (p q : ℕ → Bool) (n : ℕ) → filter q (cards_below p n) ≡ cards_below (λ k. p k && q k) n
filter_below p q zero = refl
filter_below p q (suc n) =
    filter-append q (cards_below p n) (cond (p n) (n ∷ []) []) ∙ ap (λ l. l ++ filter q (cond (p n) (n ∷ []) [])) (filter_below p q n) ∙ ap (λ l. cards_below (λ k. p k && q k) n ++ l) (filter_one (p n) q n)

-- what a set has beyond another is what the other leaves of it
pub minus_left : (a b : List ℕ) → IsCardSet a → minus a b ≡ left_by a b
unfolding cards_where
minus_left a b set = sym (ap (λ l. filter (λ c. not (has_card b c)) l) (sym set) ∙ filter_below (has_card a) (λ c. not (has_card b c)) 52)

pub has_card-append : (xs ys : List ℕ) (k : ℕ) → has_card (xs ++ ys) k ≡ (has_card xs k || has_card ys k)
has_card-append xs ys k = list_any-append (λ c. c == k) xs ys

pub rising_front_part : (low : ℕ) (xs ys : List ℕ) → RisingFrom low (xs ++ ys) → RisingFrom low xs
rising_front_part low [] ys r = tt
rising_front_part low (x ∷ xs) ys r = (r.0, r.1, rising_front_part (x + 1) xs ys r.2)

pub rising_back_part : (low : ℕ) (xs ys : List ℕ) → RisingFrom low (xs ++ ys) → RisingFrom low ys
rising_back_part low [] ys r = r
rising_back_part low (x ∷ xs) ys r = RisingFrom-lower (x + 1) low ys (omega (arith, r.0)) (rising_back_part (x + 1) xs ys r.2)

-- two parts of a set, joined
pub union_joined : (xs ys : List ℕ) → IsRising (xs ++ ys) → union xs ys ≡ xs ++ ys
union_joined xs ys r = cards_where_same _ _ (λ k h. sym (has_card-append xs ys k)) ∙ rising-IsCardSet (xs ++ ys) r

-- a card in place of the last, and cards above it
pub rising_moved : (low : ℕ) (p : List ℕ) (x y : ℕ) (zs : List ℕ) → RisingFrom low (p ++ x ∷ []) → x < y → RisingFrom y (y ∷ zs) → RisingFrom low (p ++ y ∷ zs)
rising_moved low [] x y zs r l ry = (omega (arith, r.0), ry.1, ry.2)
rising_moved low (a ∷ p) x y zs r l ry = (r.0, r.1, rising_moved (a + 1) p x y zs r.2 l ry)

pub rising_take : (low n : ℕ) (xs : List ℕ) → RisingFrom low xs → RisingFrom low (take n xs)
rising_take low zero xs r = tt
rising_take low (suc n) [] r = tt
rising_take low (suc n) (x ∷ xs) r = (r.0, r.1, rising_take (x + 1) n xs r.2)

-- the last card of a set and the cards before it
pub last_split : (xs : List ℕ) (x : ℕ) → slice_get xs (length xs - 1) ≡ Some x → (p : List ℕ) × (xs ≡ p ++ x ∷ [])
last_split [] x e = cc
last_split (y ∷ []) x e = ([], cc)
last_split (y ∷ z ∷ xs) x e =
    let at : suc (suc (length xs)) - 1 ≡ suc (length xs) = omega arith in
    let at' : suc (length xs) - 1 ≡ length xs = omega arith in
    let inner : slice_get (z ∷ xs) (length (z ∷ xs) - 1) ≡ Some x = rw at' (rw at at e) in
    let s = last_split (z ∷ xs) x inner in
    (y ∷ s.0, ap (λ l. y ∷ l) s.1)

-- a set without its last card
pub without_last : (p : List ℕ) (x : ℕ) → IsRising (p ++ x ∷ []) → without_card (p ++ x ∷ []) x ≡ p
without_last p x r = cards_where_same _ _ (λ k h. elim (cases_eq k x) [
  | inl e ↦
      let t : (k == x) ≡ true = grind arith in
      let out : has_card p k ≡ false = rw e (below_last 0 p x r) in
      rw (t, out) refl
  | inr ne ↦
      let f : (k == x) ≡ false = grind arith in
      let g : (x == k) ≡ false = grind arith in
      rw (f, has_card-append p (x ∷ []) k, g) (or_false (has_card p k))
]) ∙ rising-IsCardSet p (rising_front_part 0 p (x ∷ []) r)
  where
    or_false : (b : Bool) → (b || (false || false)) ≡ b
    or_false true = refl
    or_false false = refl

    below_last : (low : ℕ) (p : List ℕ) (x : ℕ) → RisingFrom low (p ++ x ∷ []) → has_card p x ≡ false
    below_last low [] x r = refl
    below_last low (a ∷ p) x r =
        let up : a + 1 ≤ x = later_above (a + 1) p x [] r.2 in
        let f : (a == x) ≡ false = grind arith in
        rw f (below_last (a + 1) p x r.2)

-- a card of a set, with the cards below it and the cards above it
pub split_at : (low : ℕ) (xs : List ℕ) (x : ℕ) → RisingFrom low xs → has_card xs x ≡ true → (front back : List ℕ) × (xs ≡ front ++ x ∷ back)
split_at low [] x r h = absurd (true≢false (sym h))
split_at low (y ∷ xs) x r h = elim (cases_eq y x) [
  | inl e ↦ ([], xs, ap (λ n. n ∷ xs) e)
  | inr ne ↦
      let f : (y == x) ≡ false = grind arith in
      let later : has_card xs x ≡ true = rw f at h in
      let s = split_at (y + 1) xs x r.2 later in
      (y ∷ s.0, s.1, ap (λ l. y ∷ l) s.2)
]

-- the cards above a card of a set
pub above_split : (front : List ℕ) (x : ℕ) (back : List ℕ) → IsRising (front ++ x ∷ back) → cards_above (front ++ x ∷ back) x ≡ back
above_split front x back r = cards_where_same _ _ (λ k h. elim (cases_lt x k) [
  | inl l ↦
      let t : nat_lt x k ≡ true = grind arith in
      let f : (x == k) ≡ false = grind arith in
      let out : has_card front k ≡ false = under 0 front x back k r (omega arith) in
      rw (t, has_card-append front (x ∷ back) k, f, out) refl
  | inr ge ↦
      let f : nat_lt x k ≡ false = grind arith in
      let out : has_card back k ≡ false = has_card-low (x + 1) back k (rising_back_part 0 front (x ∷ back) r).2 (omega arith) in
      rw (f, out) refl
]) ∙ rising-IsCardSet back (RisingFrom-lower (x + 1) 0 back (omega arith) (rising_back_part 0 front (x ∷ back) r).2)
  where
    under : (low : ℕ) (front : List ℕ) (x : ℕ) (back : List ℕ) (k : ℕ) → RisingFrom low (front ++ x ∷ back) → x ≤ k → has_card front k ≡ false
    under low [] x back k r l = refl
    under low (a ∷ front) x back k r l =
        let up : a + 1 ≤ x = later_above (a + 1) front x back r.2 in
        let f : (a == k) ≡ false = grind arith in
        rw f (under (a + 1) front x back k r.2 l)

-- a card before another in a rising list is below it
pub above_last : (low : ℕ) (p : List ℕ) (x : ℕ) (back : List ℕ) (k : ℕ) → RisingFrom low (p ++ x ∷ back) → has_card p k ≡ true → k < x
above_last low [] x back k r h = absurd (true≢false (sym h))
above_last low (a ∷ p) x back k r h = elim (cases_eq a k) [
  | inl e ↦ let up : a + 1 ≤ x = later_above (a + 1) p x back r.2 in omega arith
  | inr ne ↦
      let f : (a == k) ≡ false = grind arith in
      let later : has_card p k ≡ true = rw f at h in
      above_last (a + 1) p x back k r.2 later
]
