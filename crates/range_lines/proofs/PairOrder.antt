-- All hands of two cards stand in their order, and there are 1326 at the most.
use Rattle.std.proofs.Common.{◌≡◌, ℕ, zero, suc, ◌+◌, ◌-◌, ◌*◌, ◌<◌, ◌≤◌, true, ◌&&◌, ◌==◌, List, [], ◌∷◌, ◌++◌, map, length, refl, sym, ◌∙◌, length-append, inl, inr, arith}
use Rattle.std.specs.Prelude.{nat_lt}
use Rattle.std.specs.List.{flat_map}
use Rattle.std.proofs.lemmas.Bool.{cases_lt, ltb-true}
use Rattle.std.proofs.lemmas.List.{length-map}
use mathlib.Core.Bool.{true≢false}
use Rattle.card_sets.specs.Bits.{has-cards_where}
use Rattle.card_sets.specs.Cards.{cards_above, deck, has_card, RisingFrom}
use Rattle.card_sets.specs.Rising.{IsRising-cards_where}
use Rattle.card_sets.proofs.CallerLemmas.{and_first, has_past}
use Rattle.range_lines.specs.Hands.{pair, pairs_of, all_pairs}
use Rattle.range_lines.specs.declared.pairs.Pair.{Pair}

-- hands of two cards of the deck, the lower first, in their order, none before a place
abbrev pub InOrder : ℕ → List Pair → Type 0
InOrder from [] = Unit {0}
InOrder from (p ∷ ps) = (p.low < p.high) × (p.high < 52) × (from ≤ 52 * p.low + p.high) × InOrder (52 * p.low + p.high + 1) ps

order_lower : (from to : ℕ) (ps : List Pair) → to ≤ from → InOrder from ps → InOrder to ps
order_lower from to [] h o = tt
order_lower from to (p ∷ ps) h o = (o.0, o.1, omega (arith, h, o.2), o.3)

-- a rising list whose cards are all above a card
rising_raise : (low : ℕ) (ys : List ℕ) → RisingFrom 0 ys → ((k : ℕ) → has_card ys k ≡ true → low ≤ k) → RisingFrom low ys
rising_raise low [] r h = tt
rising_raise low (y ∷ ys) r h = let here : (y == y) ≡ true = grind arith in (h y (rw here refl), r.1, r.2)

above_rising : (cards : List ℕ) (x : ℕ) → RisingFrom (x + 1) (cards_above cards x)
above_rising cards x = rising_raise (x + 1) (cards_above cards x) (IsRising-cards_where (λ k. nat_lt x k && has_card cards k)) (λ k held. elim (cases_lt k 52) [
  | inl inside ↦
      let both : (nat_lt x k && has_card cards k) ≡ true = sym (has-cards_where (λ j. nat_lt x j && has_card cards j) k inside) ∙ held in
      let up : x < k = ltb-true x k (and_first (nat_lt x k) (has_card cards k) both) in
      omega (arith, up)
  | inr past ↦ absurd (true≢false (sym held ∙ has_past 0 (cards_above cards x) k (IsRising-cards_where (λ j. nat_lt x j && has_card cards j)) past))
])

-- the hands of a lower card, and after them those of higher ones
pairs_then : (low from next : ℕ) (ys : List ℕ) (rest : List Pair) → RisingFrom next ys → low < next → next ≤ 52 → from ≤ 52 * low + next → InOrder (52 * (low + 1)) rest →
    InOrder from (map (λ high. pair low high) ys ++ rest)
pairs_then low from next [] rest r l m f o = order_lower (52 * (low + 1)) from rest (omega (arith, m, f)) o
pairs_then low from next (y ∷ ys) rest r l m f o =
    (omega (arith, l, r.0), r.1, omega (arith, f, r.0), pairs_then low (52 * low + y + 1) (y + 1) ys rest r.2 (omega (arith, l, r.0)) (omega (arith, r.1)) (omega arith) o)

all_in_order : (from : ℕ) (xs : List ℕ) → RisingFrom from xs → InOrder (52 * from) (flat_map pairs_of xs)
all_in_order from [] r = tt
all_in_order from (x ∷ xs) r =
    pairs_then x (52 * from) (x + 1) (cards_above deck x) (flat_map pairs_of xs) (above_rising deck x) (omega arith) (omega (arith, r.1)) (omega (arith, r.0)) (all_in_order (x + 1) xs r.2)

pub pairs_in_order : InOrder 0 all_pairs
unfolding all_pairs
pairs_in_order = all_in_order 0 deck (IsRising-cards_where (λ k. true))

-- how many hands there are: each card with those above it
rising_few : (low : ℕ) (ys : List ℕ) → RisingFrom low ys → low ≤ 52 → length ys + low ≤ 52
rising_few low [] r h = omega (arith, h)
rising_few low (y ∷ ys) r h = omega (arith, rising_few (y + 1) ys r.2 (omega (arith, r.1)), r.0)

abbrev triangle : ℕ → ℕ
triangle zero = 0
triangle (suc n) = triangle n + n

triangle_up : (n m : ℕ) → n ≤ m → triangle n ≤ triangle m
triangle_up n zero h = let e : n ≡ 0 = omega (arith, h) in rw e (omega arith)
triangle_up n (suc m) h = elim (cases_lt n (suc m)) [
  | inl below ↦ omega (arith, triangle_up n m (omega (arith, below)))
  | inr past ↦ let e : n ≡ suc m = omega (arith, h, past) in rw e (omega arith)
]

few_from : (from left : ℕ) (xs : List ℕ) → RisingFrom from xs → from + left ≡ 52 → length (flat_map pairs_of xs) ≤ triangle left
few_from from left [] r h = omega arith
few_from from left (x ∷ xs) r h = more left h (λ n e. few_from (x + 1) n xs r.2 e)
  where
    more : (left : ℕ) → from + left ≡ 52 → ((n : ℕ) → x + 1 + n ≡ 52 → length (flat_map pairs_of xs) ≤ triangle n) → length (pairs_of x ++ flat_map pairs_of xs) ≤ triangle left
    more zero h later = absurd (omega (arith, h, r.0, r.1))
    more (suc left) h later =
        let rest : (n : ℕ) × (x + 1 + n ≡ 52) = (left - (x - from), omega (arith, h, r.0, r.1)) in
        omega (
          arith,
          length-append (pairs_of x) (flat_map pairs_of xs),
          length-map (cards_above deck x) (λ high. pair x high),
          rising_few (x + 1) (cards_above deck x) (above_rising deck x) (omega (arith, r.1)),
          later rest.0 rest.1,
          triangle_up (suc rest.0) (suc left) (omega (arith, h, r.0, rest.1)),
          rest.1,
        )

pub pairs_few : length all_pairs ≤ 1326
unfolding all_pairs
pairs_few = few_from 0 52 deck (IsRising-cards_where (λ k. true)) refl
