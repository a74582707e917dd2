-- How many cards a set has: at most as many as it is made of, and as many where they differ.
use Rattle.std.proofs.Common.{◌≡◌, ℕ, zero, suc, ◌+◌, ◌*◌, ◌<◌, ◌≤◌, Bool, true, false, cond, not, ◌||◌, ◌==◌, List, [], ◌∷◌, length, refl, sym, ap, ◌∙◌, inl, inr, Some, None, length-append, arith}
use Rattle.std.specs.Prelude.{Option, is_some, nat_lt, position, option_and_then}
use Rattle.std.specs.List.{cons_option, position_or_len}
use Rattle.std.proofs.lemmas.Bool.{cases_eq, ltb-true, not-true}
use mathlib.Core.Bool.{true≢false}
use Rattle.card_sets.specs.Cards.{cards_where, cards_below, has_card}
use Rattle.card_sets.specs.CardText.{rank_letters, suit_letters, card_of_letters, card_of_text}
use Rattle.card_sets.proofs.CallerLemmas.{and_first, and_second}
use Rattle.spot_text.specs.Parts.{all_cards, cards_of, set_of}
use Rattle.spot_text.specs.Spot.{all_differ, all_in_deck}

-- a set has no more cards than it is made of
below_same : (p : ℕ → Bool) (c n : ℕ) → n ≤ c → cards_below (λ k. (c == k) || p k) n ≡ cards_below p n
below_same p c zero past = refl
below_same p c (suc n) past =
    let other : (c == n) ≡ false = (let below : n < c = omega arith in grind arith) in
    let rest = below_same p c n (omega arith) in
    rw (other, rest) refl

one_at_most : (n : ℕ) (b : Bool) → length (cond b (n ∷ []) []) ≤ 1
one_at_most n true = omega arith
one_at_most n false = omega arith

below_more : (p : ℕ → Bool) (c n : ℕ) →
    length (cards_below (λ k. (c == k) || p k) n) ≤ length (cards_below p n) + 1
below_more p c zero = omega arith
below_more p c (suc n) = elim (cases_eq c n) [
  | inl same ↦
      let rest = ap length (below_same p c n (omega arith)) in
      omega (
        arith,
        rest,
        one_at_most n ((c == n) || p n),
        length-append (cards_below (λ k. (c == k) || p k) n) (cond ((c == n) || p n) (n ∷ []) []),
        length-append (cards_below p n) (cond (p n) (n ∷ []) []),
      )
  | inr different ↦
      let other : (c == n) ≡ false = grind arith in
      let piece = ap (λ b. length (cond (b || p n) (n ∷ []) [])) other in
      omega (
        arith,
        below_more p c n,
        piece,
        length-append (cards_below (λ k. (c == k) || p k) n) (cond ((c == n) || p n) (n ∷ []) []),
        length-append (cards_below p n) (cond (p n) (n ∷ []) []),
      )
]

pub length-set_of : (cards : List ℕ) → length (set_of cards) ≤ length cards
unfolding cards_where
length-set_of [] = omega arith
length-set_of (card ∷ cards) = omega (arith, below_more (has_card cards) card 52, length-set_of cards)

-- words name no more cards than they are
pub length-cards_of : (part : List (List ℕ)) → length (cards_of part) ≤ length part
length-cards_of [] = omega arith
length-cards_of (w ∷ part) = at (card_of_text w) (length-cards_of part)
  where
    at : (o : Option ℕ) → length (cards_of part) ≤ length part → length (cons_option o (cards_of part)) ≤ suc (length part)
    at None h = omega arith
    at (Some card) h = omega arith

-- one card more that wasn't there
below_one_more : (p : ℕ → Bool) (c n : ℕ) → p c ≡ false → c < n → length (cards_below (λ k. (c == k) || p k) n) ≡ length (cards_below p n) + 1
below_one_more p c zero out l = absurd (omega (arith, l))
below_one_more p c (suc n) out l =
    let a = length-append (cards_below (λ k. (c == k) || p k) n) (cond ((c == n) || p n) (n ∷ []) []) in
    let b = length-append (cards_below p n) (cond (p n) (n ∷ []) []) in
    elim (cases_eq c n) [
      | inl same ↦
          let is : (c == n) ≡ true = grind arith in
          let none : p n ≡ false = ap p (sym same) ∙ out in
          let rest = ap length (below_same p c n (omega (arith, same))) in
          let x : length (cond ((c == n) || p n) (n ∷ []) []) ≡ 1 = rw is refl in
          let y : length (cond (p n) (n ∷ []) []) ≡ 0 = rw none refl in
          omega (arith, a, b, rest, x, y)
      | inr different ↦
          let other : (c == n) ≡ false = grind arith in
          let rest = below_one_more p c n out (omega (arith, l, different)) in
          let x : length (cond ((c == n) || p n) (n ∷ []) []) ≡ length (cond (p n) (n ∷ []) []) = rw other refl in
          omega (arith, a, b, rest, x)
    ]

pub length-set_whole : (cards : List ℕ) → all_differ cards ≡ true → all_in_deck cards ≡ true → length (set_of cards) ≡ length cards
unfolding cards_where
length-set_whole [] differ inside = refl
length-set_whole (c ∷ cards) differ inside =
    let out : has_card cards c ≡ false = not-true (has_card cards c) (and_first (not (has_card cards c)) (all_differ cards) differ) in
    let low : c < 52 = ltb-true c 52 (and_first (nat_lt c 52) (all_in_deck cards) inside) in
    let rest = length-set_whole cards (and_second (not (has_card cards c)) (all_differ cards) differ) (and_second (nat_lt c 52) (all_in_deck cards) inside) in
    omega (arith, below_one_more (has_card cards) c 52 out low, rest)

-- words that are cards name as many
position_below : (p : ℕ → Bool) (xs : List ℕ) (n : ℕ) → position p xs ≡ Some n → n < length xs
position_below p xs n h = at (nat_lt (position_or_len p xs) (length xs)) refl h
  where
    at : (b : Bool) → nat_lt (position_or_len p xs) (length xs) ≡ b → cond b (Some (position_or_len p xs)) None ≡ Some n → n < length xs
    at true e f = let is : position_or_len p xs ≡ n = cc f in omega (arith, ltb-true (position_or_len p xs) (length xs) e, is)
    at false e f = absurd (cc f)

letters_in_deck : (r s : ℕ) (card : ℕ) → card_of_letters r s ≡ Some card → card < 52
unfolding card_of_letters
letters_in_deck r s card h = ranks (position (λ c. c == r) rank_letters) (position (λ c. c == s) suit_letters) refl refl h
  where
    ranks : (a b : Option ℕ) → position (λ c. c == r) rank_letters ≡ a → position (λ c. c == s) suit_letters ≡ b →
        option_and_then (λ rank. option_and_then (λ suit. Some (4 * rank + suit)) b) a ≡ Some card → card < 52
    ranks None b e f g = absurd (cc g)
    ranks (Some rank) None e f g = absurd (cc g)
    ranks (Some rank) (Some suit) e f g =
        let is : 4 * rank + suit ≡ card = cc g in
        omega (arith, is, position_below (λ c. c == r) rank_letters rank e, position_below (λ c. c == s) suit_letters suit f)

text_in_deck : (w : List ℕ) (card : ℕ) → card_of_text w ≡ Some card → card < 52
text_in_deck [] card h = absurd (cc h)
text_in_deck (r ∷ []) card h = absurd (cc h)
text_in_deck (r ∷ s ∷ []) card h = letters_in_deck r s card h
text_in_deck (r ∷ s ∷ t ∷ w) card h = absurd (cc h)

pub cards_named : (part : List (List ℕ)) → all_cards part ≡ true → (length (cards_of part) ≡ length part) × (all_in_deck (cards_of part) ≡ true)
cards_named [] h = (refl, refl)
cards_named (w ∷ part) h =
    let rest = cards_named part (and_second (is_some (card_of_text w)) (all_cards part) h) in
    at (card_of_text w) refl (and_first (is_some (card_of_text w)) (all_cards part) h) rest.0 rest.1
  where
    at : (o : Option ℕ) → card_of_text w ≡ o → is_some o ≡ true → length (cards_of part) ≡ length part → all_in_deck (cards_of part) ≡ true →
        (length (cons_option o (cards_of part)) ≡ suc (length part)) × (all_in_deck (cons_option o (cards_of part)) ≡ true)
    at None e some count inside = absurd (true≢false (sym some))
    at (Some card) e some count inside =
        let low : nat_lt card 52 ≡ true = (let below : card < 52 = text_in_deck w card e in grind arith) in
        (ap suc count, rw (low, inside) refl)
