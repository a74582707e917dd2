-- The best five of some cards are the best by their ranks alone, or the best of one suit.
use Rattle.std.proofs.Common.{◌≡◌, ℕ, suc, zero, ◌-◌, ◌^◌, ◌≤◌, ◌<◌, ◌==◌, List, ◌∷◌, [], refl, ap, ◌∙◌, arith, Bool, true, false, cond, length, map, max}
use Rattle.std.specs.Prelude.{nat_lt, ◌&&◌, slice_index}
use Rattle.std.specs.List.{list_all}
use Rattle.std.proofs.Math.Nat.{mul-le-mul_right}
use Rattle.card_sets.specs.Cards.{suit_of}
use Rattle.card_sets.specs.Choose.{choose}
use Rattle.rank_high.specs.High.{high, value_of, best_high, is_flush, is_straight, groups, group_count, category_of, digits_from}
use Rattle.rank_high.specs.Parts.{of_suit, plain_high, best_plain, suited, IsByRanksOrSuit}
use Rattle.rank_high.proofs.CountedRanks.{AreBelow-groups_counted, length-groups, group_sizes}
use Rattle.rank_high.proofs.ValueOrder.{IsHighList, AreDigits-pips, digits_from-lt, length-pips, category_of-le}
use Rattle.rank_high.proofs.BestByChoice.{AreHighLists, HaveLength, HaveLength-choose, value_of-greatest_of, fives}
use Rattle.card_sets.proofs.CallerLemmas.{greatest, choose-short, IsPart, greatest_most, greatest_least, passing_part, part_of_passing}

pub plain_high-IsHighList : (five : List ℕ) → length five ≤ 5 → IsHighList (plain_high five)
unfolding plain_high
plain_high-IsHighList five h =
    let few : group_count five 2 ≤ 8 = omega (arith, group_sizes five) in
    let low : category_of (is_straight (groups five)) false (group_count five 4) (group_count five 3) (group_count five 2) ≤ 8 = category_of-le (is_straight (groups five)) false (group_count five 4) (group_count five 3) (group_count five 2) few in
    let short : length (groups five) ≤ 5 = omega (arith, length-groups five) in
    (omega arith, AreDigits-pips (groups five) (AreBelow-groups_counted _), length-pips (groups five) short)

-- the number of five cards, and that by their ranks alone
abbrev pub number : List ℕ → ℕ
number five = value_of (high five)

abbrev pub plain_number : List ℕ → ℕ
plain_number five = value_of (plain_high five)

map_map : (f : List ℕ → List ℕ) (ls : List (List ℕ)) → map value_of (map f ls) ≡ map (λ l. value_of (f l)) ls
map_map f [] = refl
map_map f (l ∷ ls) = ap (λ ns. value_of (f l) ∷ ns) (map_map f ls)

pub best_high-number : (cards : List ℕ) → value_of (best_high cards) ≡ greatest (map number (choose 5 cards))
unfolding best_high
best_high-number cards = value_of-greatest_of (map high (choose 5 cards)) (fives cards) ∙ ap greatest (map_map high (choose 5 cards))

AreHighLists-plain : (ls : List (List ℕ)) → HaveLength 5 ls → AreHighLists (map plain_high ls)
AreHighLists-plain [] p = tt
AreHighLists-plain (l ∷ ls) p = (plain_high-IsHighList l (let e : length l ≡ 5 = p.0 in omega arith), AreHighLists-plain ls p.1)

pub best_plain-number : (cards : List ℕ) → value_of (best_plain cards) ≡ greatest (map plain_number (choose 5 cards))
unfolding best_plain
best_plain-number cards = value_of-greatest_of (map plain_high (choose 5 cards)) (AreHighLists-plain (choose 5 cards) (HaveLength-choose 5 cards)) ∙ ap greatest (map_map plain_high (choose 5 cards))

number_small : (xs : List ℕ) → IsHighList xs → value_of xs < 16 ^ 6
unfolding value_of
number_small [] h = absurd h
number_small (c ∷ ps) h = let low : digits_from 5 ps < 16 ^ 5 = digits_from-lt 5 ps h.1 in let first = h.0 in omega arith

-- six digits are enough
pub plain-small : (cards : List ℕ) → value_of (best_plain cards) < 16 ^ 6
plain-small cards =
    let most : greatest (map plain_number (choose 5 cards)) ≤ 16 ^ 6 - 1 = greatest_most 5 cards plain_number (16 ^ 6 - 1) (λ part e p. (let s = number_small (plain_high part) (plain_high-IsHighList part (omega arith)) in omega arith)) in
    omega (arith, best_plain-number cards)

-- no five are worth less for being a flush
more_by_flush : (straight flush four three pair : Bool) (pairs : ℕ) → pairs ≤ 5
    → cond (straight && false) 8 (cond four 7 (cond (three && pair) 6 (cond false 5 (cond straight 4 (cond three 3 pairs)))))
    ≤ cond (straight && flush) 8 (cond four 7 (cond (three && pair) 6 (cond flush 5 (cond straight 4 (cond three 3 pairs)))))
more_by_flush true true true three pair pairs h = omega arith
more_by_flush true true false true true pairs h = omega arith
more_by_flush true true false true false pairs h = omega arith
more_by_flush true true false false pair pairs h = omega arith
more_by_flush true false four three pair pairs h = omega arith
more_by_flush false true true three pair pairs h = omega arith
more_by_flush false true false true true pairs h = omega arith
more_by_flush false true false true false pairs h = omega arith
more_by_flush false true false false pair pairs h = omega arith
more_by_flush false false four three pair pairs h = omega arith

category-more : (straight flush : Bool) (fours threes pairs : ℕ) → pairs ≤ 5 → category_of straight false fours threes pairs ≤ category_of straight flush fours threes pairs
unfolding category_of
category-more straight flush fours threes pairs h = more_by_flush straight flush (nat_lt 0 fours) (nat_lt 0 threes) (nat_lt 0 pairs) pairs h

pub plain-less : (five : List ℕ) → length five ≡ 5 → plain_number five ≤ number five
unfolding high plain_high value_of
plain-less five h =
    let few : group_count five 2 ≤ 5 = omega (arith, group_sizes five) in
    let more = category-more (is_straight (groups five)) (is_flush five) (group_count five 4) (group_count five 3) (group_count five 2) few in
    let m = mul-le-mul_right (16 ^ 5) more in
    omega arith

pub plain-same : (five : List ℕ) → is_flush five ≡ false → number five ≡ plain_number five
unfolding high plain_high
plain-same five h = rw h refl

pub flush_suit : (five : List ℕ) → is_flush five ≡ true → list_all (λ c. suit_of c == suit_of (slice_index five 0)) five ≡ true
unfolding is_flush
flush_suit five h = h

-- one of four is at most the greatest
pub one_of_four : (f : ℕ → ℕ) (k : ℕ) → k < 4 → f k ≤ max (max (f 0) (f 1)) (max (f 2) (f 3))
one_of_four f zero h = omega arith
one_of_four f (suc zero) h = omega arith
one_of_four f (suc (suc zero)) h = omega arith
one_of_four f (suc (suc (suc zero))) h = omega arith
one_of_four f (suc (suc (suc (suc k)))) h = absurd (omega arith)

suited-less : (cards : List ℕ) (suit : ℕ) → suited cards suit ≤ value_of (best_high cards)
suited-less cards suit =
    let all : greatest (map number (choose 5 (of_suit cards suit))) ≤ greatest (map number (choose 5 cards)) =
    greatest_most 5 (of_suit cards suit) number (greatest (map number (choose 5 cards))) (λ part e p. greatest_least 5 cards number part e (part_of_passing (λ c. suit_of c == suit) part cards p)) in
    omega (arith, best_high-number cards, best_high-number (of_suit cards suit))

pub best_high-IsByRanksOrSuit : (cards : List ℕ) → IsByRanksOrSuit cards
best_high-IsByRanksOrSuit cards =
    let most : greatest (map number (choose 5 cards)) ≤ max (value_of (best_plain cards)) (max (max (suited cards 0) (suited cards 1)) (max (suited cards 2) (suited cards 3))) =
    greatest_most 5 cards number (max (value_of (best_plain cards)) (max (max (suited cards 0) (suited cards 1)) (max (suited cards 2) (suited cards 3)))) each in
    let plain : greatest (map plain_number (choose 5 cards)) ≤ greatest (map number (choose 5 cards)) =
    greatest_most 5 cards plain_number (greatest (map number (choose 5 cards))) (λ part e p.
    let less : plain_number part ≤ number part = plain-less part e in
    let at : number part ≤ greatest (map number (choose 5 cards)) = greatest_least 5 cards number part e p in omega arith) in
    omega (arith, best_high-number cards, best_plain-number cards, suited-less cards 0, suited-less cards 1, suited-less cards 2, suited-less cards 3)
  where
    each : (part : List ℕ) → length part ≡ 5 → IsPart part cards → number part ≤ max (value_of (best_plain cards)) (max (max (suited cards 0) (suited cards 1)) (max (suited cards 2) (suited cards 3)))
    each part e p = elim (is_flush part) as (λ b. is_flush part ≡ b → number part ≤ max (value_of (best_plain cards)) (max (max (suited cards 0) (suited cards 1)) (max (suited cards 2) (suited cards 3)))) [
      | true ↦ λ flush.
          let suit : ℕ = suit_of (slice_index part 0) in
          let inside : IsPart part (of_suit cards suit) = passing_part (λ c. suit_of c == suit) part cards (flush_suit part flush) p in
          let at : number part ≤ greatest (map number (choose 5 (of_suit cards suit))) = greatest_least 5 (of_suit cards suit) number part e inside in
          let four : suited cards suit ≤ max (max (suited cards 0) (suited cards 1)) (max (suited cards 2) (suited cards 3)) = one_of_four (suited cards) suit (omega arith) in
          omega (arith, best_high-number (of_suit cards suit))
      | false ↦ λ plain.
          let at : plain_number part ≤ greatest (map plain_number (choose 5 cards)) = greatest_least 5 cards plain_number part e p in
          omega (arith, plain-same part plain, best_plain-number cards)
    ] refl

-- where fewer than five cards have a suit
pub suited-short : (cards : List ℕ) (suit : ℕ) → length (of_suit cards suit) < 5 → suited cards suit ≡ 0
suited-short cards suit short = best_high-number (of_suit cards suit) ∙ ap (λ ls. greatest (map number ls)) (choose-short 5 (of_suit cards suit) short)
