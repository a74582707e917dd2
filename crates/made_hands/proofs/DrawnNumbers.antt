-- What is drawn: numbers below a bound, and cards that are different ones.
use Rattle.std.proofs.Common.{◌≡◌, ℕ, zero, suc, ◌+◌, ◌/◌, ◌^◌, ◌<◌, ◌≤◌, ◌==◌, ◌&&◌, not, Bool, true, false, refl, sym, ap, ◌∙◌, arith, List, ◌∷◌, ◌++◌, length, take, drop}
use Rattle.std.proofs.lemmas.Nat.{mod_below}
use mathlib.Core.Bool.{true≢false}
use Rattle.card_sets.specs.Cards.{deck, has_card, union, IsCardSet}
use Rattle.card_sets.specs.Bits.{IsCardSet-cards_where}
use Rattle.std.proofs.lemmas.Bool.{and_parts}
use Rattle.made_hands.specs.Generator.{next_state, drawn, state_after}
use Rattle.made_hands.specs.Deals.{card_drawn, left_behind, cards_drawn, stack_drawn, deal_of, IsWhole}
use Rattle.made_hands.proofs.DifferentCards.{Once, Once-behind, Once-without, has-slice_index, has-without, length-deck, length-three, length-together, length-without, of_deck}

pub drawn-below : (m x : ℕ) → 0 < m → drawn m x < m
unfolding drawn
drawn-below m x some = mod_below (next_state x / 2 ^ 33) m some

pub has-card_drawn : (left : List ℕ) (x : ℕ) → 0 < length left → has_card left (card_drawn left x) ≡ true
unfolding card_drawn
has-card_drawn left x some = has-slice_index left (drawn (length left) x) (drawn-below (length left) x some)

pub IsCardSet-left_behind : (left : List ℕ) (x : ℕ) → IsCardSet (left_behind left x)
unfolding left_behind
IsCardSet-left_behind left x = IsCardSet-cards_where (λ k. not (k == card_drawn left x) && has_card left k)

pub length-left_behind : (left : List ℕ) (x : ℕ) → IsCardSet left → 0 < length left → length (left_behind left x) + 1 ≡ length left
unfolding left_behind
length-left_behind left x set some = length-without left (card_drawn left x) set (has-card_drawn left x some)

-- a card that is left was left before, and isn't the one that was drawn
was_left : (left : List ℕ) (x k : ℕ) → k < 52 → has_card (left_behind left x) k ≡ true → (has_card left k ≡ true)
unfolding left_behind
was_left left x k inside h = (and_parts (not (k == card_drawn left x)) (has_card left k) (sym (has-without left (card_drawn left x) k inside) ∙ h)).1

gone : (left : List ℕ) (x : ℕ) → card_drawn left x < 52 → has_card (left_behind left x) (card_drawn left x) ≡ false
unfolding left_behind
gone left x inside =
    let same : (card_drawn left x == card_drawn left x) ≡ true = grind arith in
    has-without left (card_drawn left x) (card_drawn left x) inside ∙ rw same refl

-- all cards that are drawn were left
was_first_or_later : (left : List ℕ) (x k : ℕ) (later : List ℕ) → 0 < length left → (has_card later k ≡ true → has_card left k ≡ true) →
    (b : Bool) → (card_drawn left x == k) ≡ b → has_card (card_drawn left x ∷ later) k ≡ true → has_card left k ≡ true
was_first_or_later left x k later some each true e h =
    let same : card_drawn left x ≡ k = grind arith in
    ap (λ c. has_card left c) (sym same) ∙ has-card_drawn left x some
was_first_or_later left x k later some each false e h = each (rw e at h)

are_left : (n : ℕ) (left : List ℕ) (x k : ℕ) → IsCardSet left → n ≤ length left → has_card (cards_drawn n left x) k ≡ true → has_card left k ≡ true
are_left zero left x k set few h = absurd (true≢false (sym h))
are_left (suc n) left x k set few h =
    let more : IsCardSet (left_behind left x) = IsCardSet-left_behind left x in
    let some : length (left_behind left x) + 1 ≡ length left = length-left_behind left x set (omega arith) in
    was_first_or_later left x k (cards_drawn n (left_behind left x) (next_state x)) (omega arith)
    (λ y. let still : has_card (left_behind left x) k ≡ true = are_left n (left_behind left x) (next_state x) k more (omega arith) y in
    was_left left x k (of_deck (left_behind left x) k more still) still)
    (card_drawn left x == k) refl h

-- a card that is drawn isn't drawn again
not_again : (n : ℕ) (left : List ℕ) (x : ℕ) → card_drawn left x < 52 → n ≤ length (left_behind left x) →
    (b : Bool) → has_card (cards_drawn n (left_behind left x) (next_state x)) (card_drawn left x) ≡ b → b ≡ false
not_again n left x inside few false e = refl
not_again n left x inside few true e =
    absurd (true≢false (sym (are_left n (left_behind left x) (next_state x) (card_drawn left x) (IsCardSet-left_behind left x) few e) ∙ gone left x inside))

pub Once-drawn : (n : ℕ) (left : List ℕ) (x : ℕ) → IsCardSet left → n ≤ length left → Once (cards_drawn n left x)
Once-drawn zero left x set few = tt
Once-drawn (suc n) left x set few =
    let more : IsCardSet (left_behind left x) = IsCardSet-left_behind left x in
    let some : length (left_behind left x) + 1 ≡ length left = length-left_behind left x set (omega arith) in
    let inside : card_drawn left x < 52 = of_deck left (card_drawn left x) set (has-card_drawn left x (omega arith)) in
    let later = cards_drawn n (left_behind left x) (next_state x) in
    (inside, not_again n left x inside (omega arith) (has_card later (card_drawn left x)) refl, Once-drawn n (left_behind left x) (next_state x) more (omega arith))

pub stack_drawn-range : (x : ℕ) → (10 ≤ stack_drawn x) × (stack_drawn x ≤ 200)
unfolding stack_drawn
stack_drawn-range x = let b : drawn 191 x < 191 = drawn-below 191 x (omega arith) in (omega arith, omega arith)

-- a deal is whole
pub whole-deal_of : (x : ℕ) → IsWhole (deal_of x)
unfolding deal_of
whole-deal_of x =
    let cards = cards_drawn 9 deck x in
    let nine : 9 ≤ length deck = omega (arith, length-deck) in
    let once : Once cards = Once-drawn 9 deck x (IsCardSet-cards_where (λ k. true)) nine in
    let first = take 2 cards in
    let second = take 2 (drop 2 cards) in
    let board = drop 4 cards in
    let one = stack_drawn-range (state_after 9 x) in
    let other = stack_drawn-range (state_after 10 x) in
    record {
      first_seven = length-together first board (Once-without first second board once);
      second_seven = length-together second board (Once-behind first (second ++ board) once);
      first_some = one.0;
      first_few = one.1;
      second_some = other.0;
      second_few = other.1;
    }

pub nine-deal_of : (x : ℕ) → length (union (union (deal_of x).first (deal_of x).second) (deal_of x).board) ≡ 9
unfolding deal_of
nine-deal_of x =
    let cards = cards_drawn 9 deck x in
    length-three (take 2 cards) (take 2 (drop 2 cards)) (drop 4 cards) (Once-drawn 9 deck x (IsCardSet-cards_where (λ k. true)) (omega (arith, length-deck)))
