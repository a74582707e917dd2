-- Two own cards and a board make a flush of one suit at most.
use Rattle.std.proofs.Common.{◌≡◌, ℕ, zero, suc, ◌+◌, ◌≤◌, ◌<◌, ◌==◌, List, [], ◌∷◌, refl, sym, ap, ◌∙◌, arith, cond, length, max, inr, Some, None, Bool, true, false}
use Rattle.std.specs.Prelude.{◌&&◌, ◌||◌}
use Rattle.std.proofs.lemmas.List.Sums.{length-filter, count_by-le-length}
use Rattle.card_sets.specs.Cards.{IsCardSet, has_card, suit_of, union, cards_where}
use Rattle.card_sets.specs.Bits.{cards_where_same, has-cards_where}
use Rattle.card_sets.specs.SuitBits.{filter-where}
use Rattle.card_sets.specs.Disjoint.{apart}
use Rattle.rank_high.specs.High.{value_of, best_high}
use Rattle.rank_high.specs.Parts.{of_suit, best_plain, suited}
use Rattle.rank_high.proofs.CallerLemmas.{best_high-IsByRanksOrSuit, suited-short}
use Rattle.card_sets.proofs.CallerLemmas.{set-part, Apart-parts, Apart-apart, length-union, IsPart, part_of_passing}
use Rattle.showdown_tally.specs.Flushes.{IsOnlySuit}

self_part : (xs : List ℕ) → IsPart xs xs
self_part [] = refl
self_part (x ∷ xs) = inr (xs, refl, self_part xs)

fewer : (suit : ℕ) (cards : List ℕ) → length (of_suit cards suit) ≤ length cards
fewer suit cards = omega (arith, length-filter (λ c. suit_of c == suit) cards, count_by-le-length (λ c. suit_of c == suit) cards)

-- the cards of a suit of a set, by a test of each card
suit-where : (cards : List ℕ) (suit : ℕ) → IsCardSet cards → of_suit cards suit ≡ cards_where (λ k. has_card cards k && (suit_of k == suit))
suit-where cards suit set = ap (λ l. of_suit l suit) (sym set) ∙ filter-where (λ c. suit_of c == suit) (has_card cards)

or_and : (a b t : Bool) → ((a || b) && t) ≡ ((a && t) || (b && t))
or_and true true true = refl
or_and true true false = refl
or_and true false true = refl
or_and true false false = refl
or_and false true true = refl
or_and false true false = refl
or_and false false true = refl
or_and false false false = refl

suit-union : (a b : List ℕ) (suit : ℕ) → IsCardSet a → IsCardSet b → of_suit (union a b) suit ≡ union (of_suit a suit) (of_suit b suit)
suit-union a b suit x y =
    filter-where (λ c. suit_of c == suit) (λ k. has_card a k || has_card b k)
    ∙ cards_where_same (λ k. (has_card a k || has_card b k) && (suit_of k == suit)) (λ k. has_card (of_suit a suit) k || has_card (of_suit b suit) k) (λ k l.
    or_and (has_card a k) (has_card b k) (suit_of k == suit)
    ∙ ap (λ h. h || (has_card b k && (suit_of k == suit))) (sym (ap (λ l. has_card l k) (suit-where a suit x) ∙ has-cards_where (λ k. has_card a k && (suit_of k == suit)) k l))
    ∙ ap (λ h. has_card (of_suit a suit) k || h) (sym (ap (λ l. has_card l k) (suit-where b suit y) ∙ has-cards_where (λ k. has_card b k && (suit_of k == suit)) k l)))

-- two own cards and a board
pub record AreOwnAndBoard (own board : List ℕ) : Type 0 where
  pub own_cards : IsCardSet own
  pub board_cards : IsCardSet board
  pub apart : apart own board ≡ true
  pub two : length own ≤ 2

-- with two cards of a suit on the board there is no flush of it
no_flush : (own board : List ℕ) (suit : ℕ) → AreOwnAndBoard own board → length (of_suit board suit) ≤ 2 → suited (union own board) suit ≡ 0
no_flush own board suit are few =
    let p : IsPart (of_suit own suit) own = part_of_passing (λ c. suit_of c == suit) (of_suit own suit) own (self_part (of_suit own suit)) in
    let q : IsPart (of_suit board suit) board = part_of_passing (λ c. suit_of c == suit) (of_suit board suit) board (self_part (of_suit board suit)) in
    let size : length (of_suit (union own board) suit) ≡ length (of_suit own suit) + length (of_suit board suit) =
    ap length (suit-union own board suit are.own_cards are.board_cards)
    ∙ length-union (of_suit own suit) (of_suit board suit) (set-part (of_suit own suit) own p are.own_cards) (set-part (of_suit board suit) board q are.board_cards) (Apart-parts (of_suit own suit) own (of_suit board suit) board p q (Apart-apart own board are.apart)) in
    suited-short (union own board) suit (omega (arith, size, few, are.two, fewer suit own))

only_one : (f : ℕ → ℕ) (only : ℕ) → only < 4 → ((k : ℕ) → k < 4 → (k ≡ only → ⊥) → f k ≡ 0) → max (max (f 0) (f 1)) (max (f 2) (f 3)) ≡ f only
only_one f zero l none = omega (arith, none 1 (omega arith) (λ e. omega arith), none 2 (omega arith) (λ e. omega arith), none 3 (omega arith) (λ e. omega arith))
only_one f (suc zero) l none = omega (arith, none 0 (omega arith) (λ e. omega arith), none 2 (omega arith) (λ e. omega arith), none 3 (omega arith) (λ e. omega arith))
only_one f (suc (suc zero)) l none = omega (arith, none 0 (omega arith) (λ e. omega arith), none 1 (omega arith) (λ e. omega arith), none 3 (omega arith) (λ e. omega arith))
only_one f (suc (suc (suc zero))) l none = omega (arith, none 0 (omega arith) (λ e. omega arith), none 1 (omega arith) (λ e. omega arith), none 2 (omega arith) (λ e. omega arith))
only_one f (suc (suc (suc (suc n)))) l none = absurd (omega arith)

-- with no such suit the ranks alone count
pub high-plain : (own board : List ℕ) → AreOwnAndBoard own board → IsOnlySuit board None → value_of (best_high (union own board)) ≡ value_of (best_plain (union own board))
high-plain own board are only =
    omega (
      arith,
      best_high-IsByRanksOrSuit (union own board),
      no_flush own board 0 are (only 0 (omega arith)),
      no_flush own board 1 are (only 1 (omega arith)),
      no_flush own board 2 are (only 2 (omega arith)),
      no_flush own board 3 are (only 3 (omega arith)),
    )

-- and with one, the best of it too
pub high-one_suit : (own board : List ℕ) (suit : ℕ) → AreOwnAndBoard own board → IsOnlySuit board (Some suit) → value_of (best_high (union own board)) ≡ max (value_of (best_plain (union own board))) (suited (union own board) suit)
high-one_suit own board suit are only =
    omega (arith, best_high-IsByRanksOrSuit (union own board), only_one (suited (union own board)) suit only.0 (λ k l ne. no_flush own board k are (only.1 k l ne)))

suit_cons : (card : ℕ) (cards : List ℕ) (suit : ℕ) → length (of_suit (card ∷ cards) suit) ≡ cond (suit_of card == suit) 1 0 + length (of_suit cards suit)
suit_cons card cards suit = one (suit_of card == suit)
  where
    one : (b : Bool) → length (cond b (card ∷ of_suit cards suit) (of_suit cards suit)) ≡ cond {A = ℕ} b 1 0 + length (of_suit cards suit)
    one true = omega arith
    one false = omega arith

one_suit : (suit : ℕ) → suit < 4 → cond {A = ℕ} (suit == 0) 1 0 + cond {A = ℕ} (suit == 1) 1 0 + cond {A = ℕ} (suit == 2) 1 0 + cond {A = ℕ} (suit == 3) 1 0 ≡ 1
one_suit zero l = refl
one_suit (suc zero) l = refl
one_suit (suc (suc zero)) l = refl
one_suit (suc (suc (suc zero))) l = refl
one_suit (suc (suc (suc (suc n)))) l = absurd (omega arith)

-- each card has one suit
all_suits : (cards : List ℕ) → length (of_suit cards 0) + length (of_suit cards 1) + length (of_suit cards 2) + length (of_suit cards 3) ≡ length cards
all_suits [] = refl
all_suits (card ∷ cards) =
    omega (arith, all_suits cards, one_suit (suit_of card) (omega arith), suit_cons card cards 0, suit_cons card cards 1, suit_cons card cards 2, suit_cons card cards 3)

two_suits : (f : ℕ → ℕ) (a b all : ℕ) → a < 4 → b < 4 → (a ≡ b → ⊥) → f 0 + f 1 + f 2 + f 3 ≡ all → f a + f b ≤ all
two_suits f zero zero all l m ne e = absurd (ne refl)
two_suits f zero (suc zero) all l m ne e = omega arith
two_suits f zero (suc (suc zero)) all l m ne e = omega arith
two_suits f zero (suc (suc (suc zero))) all l m ne e = omega arith
two_suits f (suc zero) zero all l m ne e = omega arith
two_suits f (suc zero) (suc zero) all l m ne e = absurd (ne refl)
two_suits f (suc zero) (suc (suc zero)) all l m ne e = omega arith
two_suits f (suc zero) (suc (suc (suc zero))) all l m ne e = omega arith
two_suits f (suc (suc zero)) zero all l m ne e = omega arith
two_suits f (suc (suc zero)) (suc zero) all l m ne e = omega arith
two_suits f (suc (suc zero)) (suc (suc zero)) all l m ne e = absurd (ne refl)
two_suits f (suc (suc zero)) (suc (suc (suc zero))) all l m ne e = omega arith
two_suits f (suc (suc (suc zero))) zero all l m ne e = omega arith
two_suits f (suc (suc (suc zero))) (suc zero) all l m ne e = omega arith
two_suits f (suc (suc (suc zero))) (suc (suc zero)) all l m ne e = omega arith
two_suits f (suc (suc (suc zero))) (suc (suc (suc zero))) all l m ne e = absurd (ne refl)
two_suits f (suc (suc (suc (suc n)))) b all l m ne e = absurd (omega arith)
two_suits f a (suc (suc (suc (suc n)))) all l m ne e = absurd (omega arith)

-- five cards have three or more of one suit at most
pub only-suit : (board : List ℕ) (only : ℕ) → length board ≤ 5 → only < 4 → 2 < length (of_suit board only) → IsOnlySuit board (Some only)
only-suit board only five l many = (l, (λ suit m ne. omega (arith, two_suits (λ k. length (of_suit board k)) suit only (length board) m l ne (all_suits board))), many)
