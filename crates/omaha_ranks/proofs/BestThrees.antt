-- By ranks alone, and as a low, own cards are worth with a board what they are worth with the best three of its cards.
use Rattle.std.proofs.Common.{◌≡◌, ℕ, ◌-◌, ◌^◌, ◌≤◌, List, [], ◌∷◌, sym, ◌∙◌, arith, length, map, subst, inl, inr, None, Some}
use Rattle.std.specs.Prelude.{filter}
use Rattle.card_sets.specs.Cards.{union}
use Rattle.card_sets.specs.Choose.{choose}
use Rattle.rank_high.specs.High.{value_of}
use Rattle.rank_low.specs.Low.{low_a5, qualifies}
use Rattle.card_sets.proofs.CallerLemmas.{greatest, IsPart, greatest_most, greatest_least, set-part, Apart-parts, Apart-apart, apart-Apart}
use Rattle.rank_high.proofs.CallerLemmas.{plain_number}
use Rattle.rank_low.proofs.CallerLemmas.{AreAceLists-filter, eight_turned, greatest-filter}
use Rattle.omaha_ranks.specs.Omaha.{ArePlaced, LowThreesDecide, ThreesDecide, best_three, eight_number, fives, omaha_plain}
use Rattle.omaha_ranks.specs.Worth.{low_worth}
use Rattle.omaha_ranks.proofs.BestFives.{fives-are, plain-five}
use Rattle.omaha_ranks.proofs.BestNumbers.{aces, eight_turned-le, no-eight, some-eight}
use Rattle.omaha_ranks.proofs.TwoAndThree.{AreTwoAndThree, allowed_most, allowed_least}
use Rattle.omaha_ranks.proofs.TwoParts.{greatest-parts}
use Rattle.omaha_ranks.proofs.ValuesBeside.{low_worths, same_greatest, self_part}

-- a part of a part is a part
part_of_part : (part whole more : List ℕ) → IsPart part whole → IsPart whole more → IsPart part more
part_of_part part whole [] p q = (let P : List ℕ → Type 0 = λ l. IsPart part l in subst P q p)
part_of_part part whole (x ∷ more) p q = elim q [
  | inl without ↦ inl (part_of_part part whole more p without)
  | inr with ↦
      let P : List ℕ → Type 0 = λ l. IsPart part l in
      let here : IsPart part (x ∷ with.0) = subst P with.1 p in
      elim here [
        | inl less ↦ inl (part_of_part part with.0 more less with.2)
        | inr also ↦ inr (also.0, also.1, part_of_part also.0 with.0 more also.2 with.2)
      ]
]

-- some cards of a board beside own cards
pub placed-part : (own board three : List ℕ) → ArePlaced own board → IsPart three board → ArePlaced own three
placed-part own board three placed p = record {
  own_cards = placed.own_cards;
  board_cards = set-part three board p placed.board_cards;
  apart = apart-Apart own three (Apart-parts own own three board (self_part own) p (Apart-apart own board placed.apart));
}

-- own cards are worth with a board the greatest number of their fives
abbrev IsGreatest : (List ℕ → ℕ) → (List ℕ → List ℕ → ℕ) → Type 0
IsGreatest f value = (own board : List ℕ) → ArePlaced own board → value own board ≡ greatest (map f (fives own board))

up : (a b c d : ℕ) → a ≤ b → c ≡ b → c ≤ d → a ≤ d
up a b c d x y z = omega arith

down : (a b c : ℕ) → a ≡ b → b ≤ c → a ≤ c
down a b c x y = omega arith

both : (a b c d : ℕ) → a ≡ b → b ≤ c → c ≤ b → d ≡ c → a ≡ d
both a b c d x y z w = omega arith

-- each five is of some three cards of the board
fives_most : (f : List ℕ → ℕ) (value : List ℕ → List ℕ → ℕ) (own board : List ℕ) → IsGreatest f value → ArePlaced own board → greatest (map f (fives own board)) ≤ greatest (map (value own) (choose 3 board))
fives_most f value own board is placed = allowed_most own board f (greatest (map (value own) (choose 3 board))) (λ two three a.
    let here : AreTwoAndThree own three two three = record { two_cards = a.two_cards; of_own = a.of_own; three_cards = a.three_cards; of_board = self_part three } in
    up (f (union two three)) (greatest (map f (fives own three))) (value own three) (greatest (map (value own) (choose 3 board)))
    (allowed_least own three f two three here) (is own three (placed-part own board three placed a.of_board)) (greatest_least 3 board (value own) three a.three_cards a.of_board))

-- and the fives of some three are fives of the board
threes_most : (f : List ℕ → ℕ) (value : List ℕ → List ℕ → ℕ) (own board : List ℕ) → IsGreatest f value → ArePlaced own board → greatest (map (value own) (choose 3 board)) ≤ greatest (map f (fives own board))
threes_most f value own board is placed = greatest_most 3 board (value own) (greatest (map f (fives own board))) (λ three e p.
    down (value own three) (greatest (map f (fives own three))) (greatest (map f (fives own board))) (is own three (placed-part own board three placed p))
    (allowed_most own three f (greatest (map f (fives own board))) (λ two part a. allowed_least own board f two part (record { two_cards = a.two_cards; of_own = a.of_own; three_cards = a.three_cards; of_board = part_of_part part three board a.of_board p }))))

greatest_three : (f : List ℕ → ℕ) (value : List ℕ → List ℕ → ℕ) (own board : List ℕ) → IsGreatest f value → ArePlaced own board → value own board ≡ best_three (value own) board
greatest_three f value own board is placed =
    both (value own board) (greatest (map f (fives own board))) (greatest (map (value own) (choose 3 board))) (best_three (value own) board)
    (is own board placed) (fives_most f value own board is placed) (threes_most f value own board is placed) (same_greatest (map (value own) (choose 3 board)))

pub threes_decide : ThreesDecide
threes_decide own board placed = greatest_three plain_number (λ own board. value_of (omaha_plain own board)) own board plain-five placed

-- what the best of their lows is worth
low-five : (own board : List ℕ) → ArePlaced own board → low_worth (eight_number (fives own board)) ≡ greatest (map eight_turned (fives own board))
low-five own board placed =
    low_worths (map low_a5 (filter qualifies (fives own board))) (AreAceLists-filter (fives own board) (aces (fives own board) (fives-are own board placed)))
    ∙ greatest-filter (fives own board)

pub low_threes_decide : LowThreesDecide
low_threes_decide own board placed = greatest_three eight_turned (λ own board. low_worth (eight_number (fives own board))) own board low-five placed

-- and where it is known, so is the number of the best low
pub no_low : (own board : List ℕ) → ArePlaced own board → 0 ≡ low_worth (eight_number (fives own board)) → None ≡ eight_number (fives own board)
no_low own board placed none = no-eight (fives own board) (fives-are own board placed) (none ∙ low-five own board placed)

pub some_low : (own board : List ℕ) (w : ℕ) → ArePlaced own board → w ≡ low_worth (eight_number (fives own board)) → (w ≡ 0 → ⊥) → (low : ℕ) × (Some low ≡ eight_number (fives own board)) × (w ≡ 2 ^ 32 - 1 - low)
some_low own board w placed e some =
    let is : w ≡ greatest (map eight_turned (fives own board)) = e ∙ low-five own board placed in
    let most : greatest (map eight_turned (fives own board)) ≤ 4294967295 = eight_turned-le (fives own board) in
    let back : 4294967295 - (4294967295 - w) ≡ greatest (map eight_turned (fives own board)) = omega arith in (
      4294967295 - w,
      some-eight (fives own board) (4294967295 - w) (fives-are own board placed) (omega arith) back,
      omega arith,
    )

-- numbers that each three cards of a board have say what the best three have
pub best_by_threes : (number value : List ℕ → ℕ) (board : List ℕ) → ((three : List ℕ) → length three ≡ 3 → IsPart three board → number three ≡ value three) → best_three number board ≡ best_three value board
best_by_threes number value board same =
    same_greatest (map number (choose 3 board))
    ∙ greatest-parts 3 board number value same
    ∙ sym (same_greatest (map value (choose 3 board)))
