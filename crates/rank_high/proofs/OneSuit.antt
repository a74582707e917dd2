-- The best five of cards of one suit, from what they would be worth if there were no flushes.
use Rattle.std.proofs.Common.{◌≡◌, ℕ, suc, zero, ◌+◌, ◌*◌, ◌^◌, ◌≤◌, ◌<◌, ◌==◌, List, ◌∷◌, [], refl, ap, ◌∙◌, sym, arith, Bool, true, false, cond, length, inl, inr, map, subst}
use Rattle.std.specs.Prelude.{nat_lt}
use Rattle.std.specs.List.{list_all}
use Rattle.std.proofs.lemmas.Bool.{cases_lt, eqb-true, and_parts}
use Rattle.card_sets.specs.Cards.{suit_of, RisingFrom, IsRising}
use Rattle.card_sets.specs.Choose.{choose}
use Rattle.card_sets.specs.Rising.{RisingFrom-lower}
use Rattle.rank_high.specs.High.{high, value_of, digits_from, best_high, is_flush, is_straight, groups, group_count, category_of, pips, count_of_rank, ranks_counted}
use Rattle.rank_high.specs.Parts.{plain_high, best_plain, as_flush, of_suit, suited}
use Rattle.rank_high.proofs.CountedRanks.{AreBelow-groups_counted}
use Rattle.rank_high.proofs.ValueOrder.{AreDigits-pips, digits_from-lt}
use Rattle.rank_high.proofs.HandCategories.{one_suit}
use Rattle.rank_high.proofs.CountedRanks.{none_counted}
use Rattle.card_sets.proofs.CallerLemmas.{greatest, choose-short, IsPart, none_part, greatest_step, greatest_most, greatest_least}
use Rattle.rank_high.proofs.RanksOrSuit.{number, plain_number, best_high-number, best_plain-number}

-- some choice has the greatest number
pub attained : (k : ℕ) (xs : List ℕ) (f : List ℕ → ℕ) → k ≤ length xs → (part : List ℕ) × (length part ≡ k) × IsPart part xs × (f part ≡ greatest (map f (choose k xs)))
attained zero xs f h = ([], refl, none_part xs, omega arith)
attained (suc k) [] f h = absurd (omega arith)
attained (suc k) (x ∷ xs) f h =
    let with = attained k xs (λ rest. f (x ∷ rest)) (omega arith) in
    let step = greatest_step f k x xs in
    elim (cases_lt (greatest (map (λ rest. f (x ∷ rest)) (choose k xs))) (greatest (map f (choose (suc k) xs)))) [
      | inl less ↦ elim (cases_lt (length xs) (suc k)) [
        | inl short ↦
            let none : greatest (map f (choose (suc k) xs)) ≡ 0 = ap (λ ls. greatest (map f ls)) (choose-short (suc k) xs short) in
            absurd (omega arith)
        | inr enough ↦
            let without = attained (suc k) xs f enough in
            (without.0, without.1, inl without.2, omega (arith, without.3))
      ]
      | inr more ↦ (x ∷ with.0, ap suc with.1, inr (with.0, refl, with.2), omega (arith, with.3))
    ]

RisingFrom-part : (low : ℕ) (part cards : List ℕ) → IsPart part cards → RisingFrom low cards → RisingFrom low part
RisingFrom-part low part [] p r = let P : List ℕ → Type 0 = λ l. RisingFrom low l in subst P (sym p) tt
RisingFrom-part low part (c ∷ cards) p r = elim p [
  | inl without ↦ RisingFrom-lower (c + 1) low part (omega arith) (RisingFrom-part (c + 1) part cards without r.2)
  | inr with ↦ (let P : List ℕ → Type 0 = λ l. RisingFrom low l in subst P (sym with.1) (r.0, r.1, RisingFrom-part (c + 1) with.0 cards with.2 r.2))
]

-- all cards are of one suit
abbrev pub OfSuit : ℕ → List ℕ → Type 0
OfSuit suit cards = list_all (λ c. suit_of c == suit) cards ≡ true

OfSuit-part : (suit : ℕ) (part cards : List ℕ) → IsPart part cards → OfSuit suit cards → OfSuit suit part
OfSuit-part suit part [] p all = ap (λ l. list_all (λ c. suit_of c == suit) l) p
OfSuit-part suit part (c ∷ cards) p all =
    let parts = and_parts (suit_of c == suit) (list_all (λ c. suit_of c == suit) cards) all in
    elim p [
      | inl without ↦ OfSuit-part suit part cards without parts.1
      | inr with ↦ ap (λ l. list_all (λ c. suit_of c == suit) l) with.1 ∙ rw (parts.0, OfSuit-part suit with.0 cards with.2 parts.1) refl
    ]

OfSuit-flush : (suit : ℕ) (cards : List ℕ) → OfSuit suit cards → is_flush cards ≡ true
unfolding is_flush
OfSuit-flush suit [] all = refl
OfSuit-flush suit (c ∷ cards) all =
    let first : suit_of c ≡ suit = eqb-true (suit_of c) suit (and_parts (suit_of c == suit) (list_all (λ c. suit_of c == suit) cards) all).0 in
    ap (λ k. list_all (λ d. suit_of d == k) (c ∷ cards)) first ∙ all

pub no_group : (cards : List ℕ) (size : ℕ) → ((rank : ℕ) → count_of_rank cards rank ≤ 1) → 1 < size → group_count cards size ≡ 0
unfolding ranks_counted
no_group cards size few h = none_counted (count_of_rank cards) size 13 (λ rank l e. (let one = few rank in omega arith))

pub flush_category : (s : Bool) (d : ℕ) → d < 16 ^ 5 → category_of s true 0 0 0 * 16 ^ 5 + d ≡ as_flush (category_of s false 0 0 0 * 16 ^ 5 + d)
unfolding category_of
flush_category true d h = let t : nat_lt (4 * 16 ^ 5 + d) (16 ^ 5) ≡ false = grind arith in rw t (omega arith)
flush_category false d h = let t : nat_lt (0 * 16 ^ 5 + d) (16 ^ 5) ≡ true = grind arith in rw t (omega arith)

-- what five cards of one suit are worth
flush_number : (suit : ℕ) (five : List ℕ) → OfSuit suit five → RisingFrom 0 five → number five ≡ as_flush (plain_number five)
unfolding high plain_high value_of
flush_number suit five all rising =
    let few : (rank : ℕ) → count_of_rank five rank ≤ 1 = λ rank. one_suit 0 suit rank five rising all in
    rw (OfSuit-flush suit five all, no_group five 4 few (omega arith), no_group five 3 few (omega arith), no_group five 2 few (omega arith))
    (flush_category (is_straight (groups five)) (digits_from 5 (pips (groups five))) (digits_from-lt 5 (pips (groups five)) (AreDigits-pips (groups five) (AreBelow-groups_counted _))))

straight_or_none : (s : Bool) (d : ℕ) → d < 16 ^ 5 → 16 ^ 5 ≤ category_of s false 0 0 0 * 16 ^ 5 + d → 4 * 16 ^ 5 ≤ category_of s false 0 0 0 * 16 ^ 5 + d
unfolding category_of
straight_or_none true d h i = omega arith
straight_or_none false d h i = absurd (omega arith)

-- without flushes five cards of one suit make a straight or nothing
flush_plain : (suit : ℕ) (five : List ℕ) → OfSuit suit five → RisingFrom 0 five → 16 ^ 5 ≤ plain_number five → 4 * 16 ^ 5 ≤ plain_number five
unfolding plain_high value_of
flush_plain suit five all rising =
    let few : (rank : ℕ) → count_of_rank five rank ≤ 1 = λ rank. one_suit 0 suit rank five rising all in
    rw (no_group five 4 few (omega arith), no_group five 3 few (omega arith), no_group five 2 few (omega arith))
    (straight_or_none (is_straight (groups five)) (digits_from 5 (pips (groups five))) (digits_from-lt 5 (pips (groups five)) (AreDigits-pips (groups five) (AreBelow-groups_counted _))))

as_flush-mono : (a b : ℕ) → a ≤ b → (16 ^ 5 ≤ b → 4 * 16 ^ 5 ≤ b) → as_flush a ≤ as_flush b
as_flush-mono a b h gap = elim (cases_lt a (16 ^ 5)) [
  | inl la ↦ (let ta : nat_lt a (16 ^ 5) ≡ true = below a la in elim (cases_lt b (16 ^ 5)) [
    | inl lb ↦ (let tb : nat_lt b (16 ^ 5) ≡ true = below b lb in rw (ta, tb) (omega arith))
    | inr gb ↦ (let tb : nat_lt b (16 ^ 5) ≡ false = above b gb in let high_b = gap gb in rw (ta, tb) (omega arith))
  ])
  | inr ga ↦ (let ta : nat_lt a (16 ^ 5) ≡ false = above a ga in let tb : nat_lt b (16 ^ 5) ≡ false = above b (omega arith) in rw (ta, tb) (omega arith))
]
  where
    below : (n : ℕ) → n < 16 ^ 5 → nat_lt n (16 ^ 5) ≡ true
    below n h = grind arith

    above : (n : ℕ) → 16 ^ 5 ≤ n → nat_lt n (16 ^ 5) ≡ false
    above n h = grind arith

-- what the best five of cards of one suit are worth
pub best_of_suit : (suit : ℕ) (cards : List ℕ) → RisingFrom 0 cards → OfSuit suit cards → 5 ≤ length cards → value_of (best_high cards) ≡ as_flush (value_of (best_plain cards))
best_of_suit suit cards rising all enough = omega (arith, upper, lower)
  where
    each : (part : List ℕ) → IsPart part cards → number part ≡ as_flush (plain_number part)
    each part p = flush_number suit part (OfSuit-part suit part cards p all) (RisingFrom-part 0 part cards p rising)

    gap : 16 ^ 5 ≤ greatest (map plain_number (choose 5 cards)) → 4 * 16 ^ 5 ≤ greatest (map plain_number (choose 5 cards))
    gap h =
        let a = attained 5 cards plain_number enough in
        let low = flush_plain suit a.0 (OfSuit-part suit a.0 cards a.2 all) (RisingFrom-part 0 a.0 cards a.2 rising) (omega (arith, a.3)) in
        omega (arith, a.3)

    upper : value_of (best_high cards) ≤ as_flush (value_of (best_plain cards))
    upper = rw (best_high-number cards, best_plain-number cards) (greatest_most 5 cards number (as_flush (greatest (map plain_number (choose 5 cards)))) (λ part e p. (let m = as_flush-mono (plain_number part) (greatest (map plain_number (choose 5 cards))) (greatest_least 5 cards plain_number part e p) gap in let s = each part p in omega arith)))

    lower : as_flush (value_of (best_plain cards)) ≤ value_of (best_high cards)
    lower = (let a = attained 5 cards plain_number enough in
        let s = each a.0 a.2 in
        let g = greatest_least 5 cards number a.0 a.1 a.2 in
        let e = ap as_flush a.3 in
        rw (best_high-number cards, best_plain-number cards) (omega arith))

suits-pass : (suit : ℕ) (cards : List ℕ) → OfSuit suit (of_suit cards suit)
suits-pass suit [] = refl
suits-pass suit (c ∷ cards) = one (suit_of c == suit) refl (suits-pass suit cards)
  where
    one : (b : Bool) → (suit_of c == suit) ≡ b → OfSuit suit (of_suit cards suit) → OfSuit suit (cond b (c ∷ of_suit cards suit) (of_suit cards suit))
    one true e rest = rw (e, rest) refl
    one false e rest = rest

-- what a body finds for the cards of a suit
pub suited-is : (cards flush : List ℕ) (suit plain : ℕ) → flush ≡ of_suit cards suit → IsRising flush → 5 ≤ length flush → plain ≡ value_of (best_plain flush) → suited cards suit ≡ as_flush plain
suited-is cards flush suit plain e rising five v =
    let P : List ℕ → Type 0 = λ l. OfSuit suit l in
    ap (λ l. value_of (best_high l)) (sym e) ∙ best_of_suit suit flush rising (subst P (sym e) (suits-pass suit cards)) five ∙ ap as_flush (sym v)

pub as_flush-low : (n : ℕ) → n < 1048576 → as_flush n ≡ n + 5242880
as_flush-low n h = let t : nat_lt n (16 ^ 5) ≡ true = grind arith in rw t refl

pub as_flush-high : (n : ℕ) → 1048576 ≤ n → as_flush n ≡ n + 4194304
as_flush-high n h = let t : nat_lt n (16 ^ 5) ≡ false = grind arith in rw t refl
