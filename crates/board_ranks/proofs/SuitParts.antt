-- The cards of a suit of two sets, and how many they are.
use Rattle.std.proofs.Common.{◌≡◌, ℕ, zero, suc, ◌+◌, ◌≤◌, ◌==◌, List, [], ◌∷◌, refl, sym, ap, ◌∙◌, arith, cond, length, length-append, Bool, true, false, inl, inr}
use Rattle.std.specs.Prelude.{◌&&◌, ◌||◌}
use Rattle.std.proofs.Math.Bool.{and-or_distrib_right}
use Rattle.std.proofs.lemmas.Bool.{cases_eq}
use Rattle.std.proofs.lemmas.List.Sums.{length-filter, count_by-le-length}
use Rattle.card_sets.specs.Cards.{IsCardSet, has_card, suit_of, union, cards_where, cards_below}
use Rattle.card_sets.specs.Bits.{cards_where_same, has-cards_where}
use Rattle.card_sets.specs.SuitBits.{filter-where}
use Rattle.rank_high.specs.Parts.{of_suit, count_of_suit}
use Rattle.omaha_ranks.specs.Omaha.{ArePlaced}
use Rattle.card_sets.proofs.CallerLemmas.{Apart-apart, length-union}
use Rattle.omaha_ranks.proofs.CallerLemmas.{placed-passing}

-- so many cards of a suit as pass its test
pub suit_count : (cards : List ℕ) (suit : ℕ) → length (of_suit cards suit) ≡ count_of_suit cards suit
suit_count cards suit = length-filter (λ c. suit_of c == suit) cards

pub suit_fewer : (cards : List ℕ) (suit : ℕ) → length (of_suit cards suit) ≤ length cards
suit_fewer cards suit = omega (arith, suit_count cards suit, count_by-le-length (λ c. suit_of c == suit) cards)

-- the cards of a suit of a set, by a test of each card
suit-where : (cards : List ℕ) (suit : ℕ) → IsCardSet cards → of_suit cards suit ≡ cards_where (λ k. has_card cards k && (suit_of k == suit))
suit-where cards suit set = ap (λ l. of_suit l suit) (sym set) ∙ filter-where (λ c. suit_of c == suit) (has_card cards)

-- the cards of a suit of two sets together
pub suit_union : (a b : List ℕ) (suit : ℕ) → IsCardSet a → IsCardSet b → of_suit (union a b) suit ≡ union (of_suit a suit) (of_suit b suit)
suit_union a b suit x y =
    filter-where (λ c. suit_of c == suit) (λ k. has_card a k || has_card b k)
    ∙ cards_where_same (λ k. (has_card a k || has_card b k) && (suit_of k == suit)) (λ k. has_card (of_suit a suit) k || has_card (of_suit b suit) k) (λ k l.
    and-or_distrib_right (has_card a k) (has_card b k) (suit_of k == suit)
    ∙ ap (λ h. h || (has_card b k && (suit_of k == suit))) (sym (ap (λ l. has_card l k) (suit-where a suit x) ∙ has-cards_where (λ k. has_card a k && (suit_of k == suit)) k l))
    ∙ ap (λ h. has_card (of_suit a suit) k || h) (sym (ap (λ l. has_card l k) (suit-where b suit y) ∙ has-cards_where (λ k. has_card b k && (suit_of k == suit)) k l)))

-- own cards and a board have as many of a suit as both
pub suit_both : (own board : List ℕ) (suit : ℕ) → ArePlaced own board → length (of_suit (union own board) suit) ≡ count_of_suit own suit + count_of_suit board suit
suit_both own board suit placed =
    let parts : ArePlaced (of_suit own suit) (of_suit board suit) = placed-passing (λ c. suit_of c == suit) own board placed in
    let size : length (union (of_suit own suit) (of_suit board suit)) ≡ length (of_suit own suit) + length (of_suit board suit) =
    length-union (of_suit own suit) (of_suit board suit) parts.own_cards parts.board_cards (Apart-apart (of_suit own suit) (of_suit board suit) parts.apart) in
    omega (arith, ap length (suit_union own board suit placed.own_cards placed.board_cards), size, suit_count own suit, suit_count board suit)

one-most : (p q : Bool) (n : ℕ) → length (cond (p || q) (n ∷ []) []) ≤ length (cond p (n ∷ []) []) + length (cond q (n ∷ []) [])
one-most true true n = omega arith
one-most true false n = omega arith
one-most false true n = omega arith
one-most false false n = omega arith

or-most : (p q : ℕ → Bool) (n : ℕ) → length (cards_below (λ k. p k || q k) n) ≤ length (cards_below p n) + length (cards_below q n)
or-most p q zero = omega arith
or-most p q (suc n) =
    omega (
      arith,
      or-most p q n,
      one-most (p n) (q n) n,
      length-append (cards_below (λ k. p k || q k) n) (cond (p n || q n) (n ∷ []) []),
      length-append (cards_below p n) (cond (p n) (n ∷ []) []),
      length-append (cards_below q n) (cond (q n) (n ∷ []) []),
    )

none-below : (x n : ℕ) → n ≤ x → length (cards_below (λ k. x == k) n) ≡ 0
none-below x zero h = refl
none-below x (suc n) h =
    let f : (x == n) ≡ false = grind arith in
    length-append (cards_below (λ k. x == k) n) (cond (x == n) (n ∷ []) []) ∙ rw f (omega (arith, none-below x n (omega arith)))

one-below : (x n : ℕ) → length (cards_below (λ k. x == k) n) ≤ 1
one-below x zero = omega arith
one-below x (suc n) = elim (cases_eq x n) [
  | inl same ↦
      let t : (x == n) ≡ true = grind arith in
      let last : length (cond (x == n) (n ∷ []) []) ≡ 1 = rw t refl in
      omega (arith, length-append (cards_below (λ k. x == k) n) (cond (x == n) (n ∷ []) []), none-below x n (omega arith), last)
  | inr other ↦
      let f : (x == n) ≡ false = grind arith in
      let last : length (cond (x == n) (n ∷ []) []) ≡ 0 = rw f refl in
      omega (arith, length-append (cards_below (λ k. x == k) n) (cond (x == n) (n ∷ []) []), one-below x n, last)
]

no-card : (n : ℕ) → length (cards_below (has_card []) n) ≡ 0
no-card zero = refl
no-card (suc n) = omega (arith, length-append (cards_below (has_card []) n) [], no-card n)

below-most : (xs : List ℕ) (n : ℕ) → length (cards_below (has_card xs) n) ≤ length xs
below-most [] n = omega (arith, no-card n)
below-most (x ∷ xs) n =
    let step : length (cards_below (has_card (x ∷ xs)) n) ≤ length (cards_below (λ k. x == k) n) + length (cards_below (has_card xs) n) = or-most (λ k. x == k) (has_card xs) n in
    omega (arith, step, one-below x n, below-most xs n)

-- two lists have together no more cards than both
pub union_most : (a b : List ℕ) → length (union a b) ≤ length a + length b
unfolding cards_where
union_most a b = omega (arith, or-most (has_card a) (has_card b) 52, below-most a 52, below-most b 52)
