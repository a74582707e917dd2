-- A deuce-to-seven low by the ranks alone and the flush.
use Rattle.std.proofs.Common.{◌≡◌, ℕ, ◌+◌, ◌^◌, ◌%◌, ◌<◌, ◌≤◌, ◌==◌, ◌&&◌, ◌||◌, List, [], ◌∷◌, refl, ap, ◌∙◌, sym, arith, Bool, true, false, cond, length, map, slice_index}
use Rattle.std.proofs.lemmas.Bool.{eqb-true, and_parts}
use Rattle.card_sets.specs.Cards.{suit_of, RisingFrom}
use Rattle.rank_high.specs.High.{value_of, digits_from, groups, group_count, is_straight, is_wheel, is_flush, falls_by_one, category_of, pips, count_of_rank}
use Rattle.rank_high.specs.Parts.{plain_high, best_plain, as_flush}
use Rattle.rank_high.proofs.CallerLemmas.{AreBelow, AreBelow-groups_counted, length-groups, length-groups_counted, group_sizes, no_group, flush_category, one_suit, AreDigits-map, digits_from-lt, flush_suit, best_plain-number, plain_number}
use Rattle.card_sets.proofs.CallerLemmas.{greatest, choose-all}
use Rattle.card_sets.specs.Choose.{choose}
use Rattle.rank_low.specs.Low.{low_27, is_run}
use Rattle.rank_low.specs.Wheel.{without_wheel}

-- what five cards would be worth if there were no flushes, with no straight of five to ace
plain_27 : List ℕ → List ℕ
plain_27 five = category_of (is_run (groups five)) false (group_count five 4) (group_count five 3) (group_count five 2) ∷ map (λ r. r + 2) (groups five)

-- five to ace are these ranks
wheel_is : (ranks : List ℕ) → is_wheel ranks ≡ true → ranks ≡ 12 ∷ 3 ∷ 2 ∷ 1 ∷ 0 ∷ []
wheel_is [] w = cc
wheel_is (a ∷ []) w = cc
wheel_is (a ∷ b ∷ []) w = cc
wheel_is (a ∷ b ∷ c ∷ []) w = cc
wheel_is (a ∷ b ∷ c ∷ d ∷ []) w = cc
wheel_is (a ∷ b ∷ c ∷ d ∷ e ∷ []) w =
    let s = and_parts ((a == 12) && (b == 3) && (c == 2) && (d == 1)) (e == 0) w in
    let t = and_parts ((a == 12) && (b == 3) && (c == 2)) (d == 1) s.0 in
    let u = and_parts ((a == 12) && (b == 3)) (c == 2) t.0 in
    let v = and_parts (a == 12) (b == 3) u.0 in
    rw (eqb-true a 12 v.0, eqb-true b 3 v.1, eqb-true c 2 u.1, eqb-true d 1 t.1, eqb-true e 0 s.1) refl
wheel_is (a ∷ b ∷ c ∷ d ∷ e ∷ f ∷ rest) w = cc

-- without it the last digit isn't 1
last_digit : (category : ℕ) (ranks : List ℕ) → AreBelow 13 ranks → length ranks ≤ 5 → (digits_from 6 (category ∷ map (λ r. r + 2) ranks) % 16 == 1) ≡ false
last_digit k [] b h = let n : digits_from 6 (k ∷ []) % 16 ≡ 0 = omega arith in grind arith
last_digit k (p ∷ []) b h = let n : digits_from 6 (k ∷ (p + 2) ∷ []) % 16 ≡ 0 = omega arith in grind arith
last_digit k (p ∷ q ∷ []) b h = let n : digits_from 6 (k ∷ (p + 2) ∷ (q + 2) ∷ []) % 16 ≡ 0 = omega arith in grind arith
last_digit k (p ∷ q ∷ r ∷ []) b h = let n : digits_from 6 (k ∷ (p + 2) ∷ (q + 2) ∷ (r + 2) ∷ []) % 16 ≡ 0 = omega arith in grind arith
last_digit k (p ∷ q ∷ r ∷ s ∷ []) b h = let n : digits_from 6 (k ∷ (p + 2) ∷ (q + 2) ∷ (r + 2) ∷ (s + 2) ∷ []) % 16 ≡ 0 = omega arith in grind arith
last_digit k (p ∷ q ∷ r ∷ s ∷ t ∷ []) b h =
    let small : t < 13 = b.1.1.1.1.0 in
    let n : digits_from 6 (k ∷ (p + 2) ∷ (q + 2) ∷ (r + 2) ∷ (s + 2) ∷ (t + 2) ∷ []) % 16 ≡ t + 2 = omega arith in
    grind arith
last_digit k (p ∷ q ∷ r ∷ s ∷ t ∷ u ∷ rest) b h = absurd (omega arith)

-- five groups are five single ranks
all_single : (five : List ℕ) → length five ≡ 5 → length (groups five) ≡ 5 → (group_count five 4 ≡ 0) × (group_count five 3 ≡ 0) × (group_count five 2 ≡ 0)
all_single five h g =
    let a = group_sizes five in
    let b = length-groups_counted (count_of_rank five) in
    (omega arith, omega arith, omega arith)

or-false : (b : Bool) → (b || false) ≡ b
or-false true = refl
or-false false = refl

wheel_number : (ranks : List ℕ) (fours threes pairs : ℕ) → ranks ≡ 12 ∷ 3 ∷ 2 ∷ 1 ∷ 0 ∷ [] → fours ≡ 0 → threes ≡ 0 → pairs ≡ 0
    → digits_from 6 (category_of (is_run ranks) false fours threes pairs ∷ map (λ r. r + 2) ranks) ≡ without_wheel (digits_from 6 (category_of (is_straight ranks) false fours threes pairs ∷ pips ranks))
unfolding category_of is_straight pips
wheel_number ranks fours threes pairs e a b c = rw (e, a, b, c) refl

other_number : (ranks : List ℕ) (fours threes pairs : ℕ) → is_wheel ranks ≡ false → AreBelow 13 ranks → length ranks ≤ 5
    → digits_from 6 (category_of (is_run ranks) false fours threes pairs ∷ map (λ r. r + 2) ranks) ≡ without_wheel (digits_from 6 (category_of (is_straight ranks) false fours threes pairs ∷ pips ranks))
unfolding is_straight pips
other_number ranks fours threes pairs w below few =
    let straight : is_straight ranks ≡ is_run ranks = ap (λ b. (length ranks == 5) && (falls_by_one ranks || b)) w ∙ ap (λ b. (length ranks == 5) && b) (or-false (falls_by_one ranks)) in
    let same : pips ranks ≡ map (λ r. r + 2) ranks = ap (λ b. cond b (5 ∷ 4 ∷ 3 ∷ 2 ∷ 1 ∷ []) (map (λ r. r + 2) ranks)) w in
    let number : ℕ = digits_from 6 (category_of (is_run ranks) false fours threes pairs ∷ map (λ r. r + 2) ranks) in
    let kept : number ≡ without_wheel number = sym (ap (λ b. cond b 939058 (digits_from 6 (category_of (is_run ranks) false fours threes pairs ∷ map (λ r. r + 2) ranks))) (last_digit (category_of (is_run ranks) false fours threes pairs) ranks below few)) in
    kept ∙ ap without_wheel (sym (ap (λ s. digits_from 6 (category_of s false fours threes pairs ∷ pips ranks)) straight ∙ ap (λ ps. digits_from 6 (category_of (is_run ranks) false fours threes pairs ∷ ps)) same))

-- the number by ranks alone tells it
plain-without_wheel : (five : List ℕ) → length five ≡ 5 → value_of (plain_27 five) ≡ without_wheel (value_of (plain_high five))
unfolding plain_27 plain_high value_of
plain-without_wheel five h = one (is_wheel (groups five)) refl
  where
    one : (w : Bool) → is_wheel (groups five) ≡ w → value_of (plain_27 five) ≡ without_wheel (value_of (plain_high five))
    one true w =
        let ranks = wheel_is (groups five) w in
        let s = all_single five h (ap length ranks) in
        wheel_number (groups five) (group_count five 4) (group_count five 3) (group_count five 2) ranks s.0 s.1 s.2
    one false w = other_number (groups five) (group_count five 4) (group_count five 3) (group_count five 2) w (AreBelow-groups_counted (count_of_rank five)) (omega (arith, length-groups five))

-- a flush raises it as it raises a high
deuce-flush : (five : List ℕ) → RisingFrom 0 five → value_of (low_27 five) ≡ cond (is_flush five) (as_flush (value_of (plain_27 five))) (value_of (plain_27 five))
unfolding plain_27 low_27 value_of
deuce-flush five rising = one (is_flush five) refl
  where
    one : (b : Bool) → is_flush five ≡ b → value_of (low_27 five) ≡ cond b (as_flush (value_of (plain_27 five))) (value_of (plain_27 five))
    one false e = rw e refl
    one true e =
        let few : (rank : ℕ) → count_of_rank five rank ≤ 1 = λ rank. one_suit 0 (suit_of (slice_index five 0)) rank five rising (flush_suit five e) in
        rw (e, no_group five 4 few (omega arith), no_group five 3 few (omega arith), no_group five 2 few (omega arith))
        (flush_category (is_run (groups five)) (digits_from 5 (map (λ r. r + 2) (groups five))) (digits_from-lt 5 (map (λ r. r + 2) (groups five)) (AreDigits-map (groups five) (AreBelow-groups_counted _))))

-- what five cards are worth, from the best by ranks alone and the flush
pub deuce-by_ranks : (five : List ℕ) → RisingFrom 0 five → length five ≡ 5
    → value_of (low_27 five) ≡ cond (is_flush five) (as_flush (without_wheel (value_of (best_plain five)))) (without_wheel (value_of (best_plain five)))
deuce-by_ranks five rising h =
    let only : choose 5 five ≡ five ∷ [] = ap (λ k. choose k five) (sym h) ∙ choose-all five in
    let plain : value_of (best_plain five) ≡ value_of (plain_high five) = best_plain-number five ∙ ap (λ ls. greatest (map plain_number ls)) only ∙ omega arith in
    let same : value_of (plain_27 five) ≡ without_wheel (value_of (best_plain five)) = plain-without_wheel five h ∙ ap without_wheel (sym plain) in
    deuce-flush five rising ∙ ap (λ n. cond (is_flush five) (as_flush n) n) same

pub without_wheel-lt : (number : ℕ) → number < 16 ^ 6 → without_wheel number < 16 ^ 6
without_wheel-lt number small = one (number % 16 == 1)
  where
    one : (b : Bool) → cond b 939058 number < 16 ^ 6
    one true = omega arith
    one false = small
