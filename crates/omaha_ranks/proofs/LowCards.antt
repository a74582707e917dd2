-- Only cards from ace to eight make a low.
use Rattle.std.proofs.Common.{◌≡◌, ℕ, ◌+◌, ◌/◌, ◌%◌, ◌<◌, ◌≤◌, ◌==◌, ◌||◌, List, [], ◌∷◌, refl, sym, ap, ◌∙◌, arith, Bool, true, false, cond, map, inl, inr, nat_lt, ◌&&◌, not}
use Rattle.std.specs.Prelude.{filter, Contains}
use Rattle.std.specs.List.{list_all}
use Rattle.std.proofs.lemmas.Bool.{cases_eq, cases_lt}
use Rattle.std.proofs.lemmas.List.Sums.{AllPass-from_list_all, sum_by-cons}
use mathlib.Core.Bool.{true≢false}
use Rattle.card_sets.specs.Cards.{IsCardSet, has_card, rank_of, cards_above, minus, deck, union}
use Rattle.card_sets.specs.Bits.{cards_where_same, has-cards_where}
use Rattle.card_sets.specs.Rising.{IsCardSet-rising}
use Rattle.card_sets.specs.SuitBits.{filter-where}
use Rattle.rank_low.specs.Low.{ace_low, count_of_low, low_groups, qualifies}
use Rattle.card_sets.proofs.CallerLemmas.{greatest, has_card-bound, has_all, all-union, set-part, union-IsCardSet, passing_part, part_of_passing}
use Rattle.rank_high.proofs.CallerLemmas.{grouped}
use Rattle.rank_low.proofs.CallerLemmas.{set-FewOfEach, qualifies-is, eight_turned, five_turned}
use Rattle.omaha_ranks.specs.Omaha.{fives, is_low, OnlyLowCards}
use Rattle.omaha_ranks.proofs.TwoAndThree.{AreTwoAndThree, allowed_most, allowed_least}
use Rattle.omaha_ranks.proofs.BestFives.{fives-are, placed-passing}
use Rattle.omaha_ranks.proofs.BestNumbers.{eight-by}

-- a card of a set is counted at its rank
counted : (cards : List ℕ) (card : ℕ) → has_card cards card ≡ true → 0 < count_of_low cards (rank_of (ace_low card))
counted [] card h = absurd (true≢false (sym h))
counted (x ∷ xs) card h = elim (cases_eq x card) [
  | inl e ↦
      let t : (rank_of (ace_low x) == rank_of (ace_low card)) ≡ true = (let same : rank_of (ace_low x) ≡ rank_of (ace_low card) = ap (λ c. rank_of (ace_low c)) e in grind arith) in
      let one : cond {A = ℕ} (rank_of (ace_low x) == rank_of (ace_low card)) 1 0 ≡ 1 = ap (λ b. cond {A = ℕ} b 1 0) t in
      omega (arith, one, sum_by-cons (λ c. cond (rank_of c == rank_of (ace_low card)) 1 0) (ace_low x) (map ace_low xs))
  | inr ne ↦
      let f : (x == card) ≡ false = grind arith in
      omega (arith, counted xs card (rw f at h), sum_by-cons (λ c. cond (rank_of c == rank_of (ace_low card)) 1 0) (ace_low x) (map ace_low xs))
]

low_rank : (card : ℕ) → card < 52 → (card + 4) % 52 / 4 < 8 → is_low card ≡ true
low_rank card h l = elim (cases_lt card 48) [
  | inl below ↦ (let small : card < 28 = (let e : (card + 4) % 52 ≡ card + 4 = omega arith in omega arith) in let t : nat_lt card 28 ≡ true = grind arith in rw t refl)
  | inr ace ↦ (let t : nat_lt 47 card ≡ true = grind arith in rw t (or-true (nat_lt card 28)))
]
  where
    or-true : (b : Bool) → (b || true) ≡ true
    or-true true = refl
    or-true false = refl

passes : (p : ℕ → Bool) (xs : List ℕ) (x : ℕ) → list_all p xs ≡ true → Contains xs x → p x ≡ true
passes p xs x all c = ap p (sym c.2) ∙ AllPass-from_list_all p xs all c.0 x c.1

below_eight : (r : ℕ) → nat_lt r 8 ≡ true → r < 8
below_eight r h = grind arith

-- five cards that qualify are from ace to eight
qualified-low : (five : List ℕ) → IsCardSet five → qualifies five ≡ true → list_all is_low five ≡ true
qualified-low five set q = has_all is_low five each
  where
    each : (card : ℕ) → has_card five card ≡ true → is_low card ≡ true
    each card h =
        let inside : card < 52 = has_card-bound 0 five card (IsCardSet-rising five set) h in
        let rank : rank_of (ace_low card) < 13 = (let m : (card + 4) % 52 < 52 = omega arith in omega arith) in
        let member : Contains (low_groups five) (rank_of (ace_low card)) = grouped (count_of_low five) (rank_of (ace_low card)) rank (counted five card h) (set-FewOfEach five set (rank_of (ace_low card)) rank) in
        low_rank card inside (below_eight (rank_of (ace_low card)) (passes (λ r. nat_lt r 8) (low_groups five) (rank_of (ace_low card)) (qualifies-is five q).low member))

pub only_low_cards : OnlyLowCards
only_low_cards own board placed =
    let low = placed-passing is_low own board placed in
    let most : greatest (map eight_turned (fives own board)) ≤ greatest (map eight_turned (fives (filter is_low own) (filter is_low board))) =
    allowed_most own board eight_turned (greatest (map eight_turned (fives (filter is_low own) (filter is_low board)))) (λ two three a. each two three a (qualifies (union two three)) refl) in
    let least : greatest (map eight_turned (fives (filter is_low own) (filter is_low board))) ≤ greatest (map eight_turned (fives own board)) =
    allowed_most (filter is_low own) (filter is_low board) eight_turned (greatest (map eight_turned (fives own board))) (λ two three a. allowed_least own board eight_turned two three (record { two_cards = a.two_cards; of_own = part_of_passing is_low two own a.of_own; three_cards = a.three_cards; of_board = part_of_passing is_low three board a.of_board })) in
    eight-by (fives own board) (fives (filter is_low own) (filter is_low board)) (fives-are own board placed) (fives-are (filter is_low own) (filter is_low board) low) (omega arith)
  where
    each : (two three : List ℕ) → AreTwoAndThree own board two three → (b : Bool) → qualifies (union two three) ≡ b → cond b (five_turned (union two three)) 0 ≤ greatest (map eight_turned (fives (filter is_low own) (filter is_low board)))
    each two three a false q = omega arith
    each two three a true q =
        let all = all-union is_low two three (set-part two own a.of_own placed.own_cards) (set-part three board a.of_board placed.board_cards) (qualified-low (union two three) (union-IsCardSet two three) q) in
        let here : eight_turned (union two three) ≡ five_turned (union two three) = ap (λ b. cond b (five_turned (union two three)) 0) q in
        let at : eight_turned (union two three) ≤ greatest (map eight_turned (fives (filter is_low own) (filter is_low board))) =
        allowed_least (filter is_low own) (filter is_low board) eight_turned two three (record { two_cards = a.two_cards; of_own = passing_part is_low two own all.0 a.of_own; three_cards = a.three_cards; of_board = passing_part is_low three board all.1 a.of_board }) in
        omega arith

-- the cards from nine to king left out
pub without_high : (s above high : List ℕ) → IsCardSet s → above ≡ cards_above deck 27 → high ≡ minus above (cards_above deck 47) → minus s high ≡ filter is_low s
without_high s above high set e f =
    cards_where_same (λ k. has_card s k && not (has_card high k)) (λ k. has_card s k && is_low k) (λ k l. ap (λ b. has_card s k && b) (one k l)) ∙ sym (filter-where is_low (has_card s)) ∙ ap (filter is_low) set
  where
    in_deck : (k : ℕ) → k < 52 → has_card deck k ≡ true
    in_deck k l = has-cards_where (λ k. true) k l

    above_is : (c k : ℕ) → k < 52 → has_card (cards_above deck c) k ≡ nat_lt c k
    above_is c k l = has-cards_where (λ k. nat_lt c k && has_card deck k) k l ∙ ap (λ b. nat_lt c k && b) (in_deck k l) ∙ and-true (nat_lt c k)
      where
        and-true : (b : Bool) → (b && true) ≡ b
        and-true true = refl
        and-true false = refl

    split : (k : ℕ) → not (nat_lt 27 k && not (nat_lt 47 k)) ≡ (nat_lt k 28 || nat_lt 47 k)
    split k = grind arith

    one : (k : ℕ) → k < 52 → not (has_card high k) ≡ is_low k
    one k l = ap (λ h. not (has_card h k)) f ∙ ap (λ b. not b) (has-cards_where (λ k. has_card above k && not (has_card (cards_above deck 47) k)) k l)
        ∙ ap (λ a. not (has_card a k && not (has_card (cards_above deck 47) k))) e ∙ ap (λ b. not (b && not (has_card (cards_above deck 47) k))) (above_is 27 k l) ∙ ap (λ b. not (nat_lt 27 k && not b)) (above_is 47 k l) ∙ split k
