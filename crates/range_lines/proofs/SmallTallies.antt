-- The numbers of a tally are small enough to be written, and there is a runout.
use Rattle.std.proofs.Common.{◌≡◌, ℕ, suc, ◌+◌, ◌-◌, ◌*◌, ◌^◌, ◌<◌, ◌≤◌, false, ◌==◌, List, [], ◌∷◌, map, length, refl, ap, ◌∙◌, length-append, All, arith}
use Rattle.std.specs.Prelude.{nat_lt, slice_index_or}
use Rattle.std.specs.List.{sum_by, flat_map}
use Rattle.std.proofs.lemmas.List.{length-map}
use Rattle.std.proofs.lemmas.List.Elements.{All-nil, All-cons, All-head, All-tail, All-append, All-map, All-filter, All-weaker}
use Rattle.std.proofs.lemmas.List.Sums.{sum_by-cons, sum_by-le, count_by-le-length, length-filter}
use Rattle.std.proofs.Math.Nat.{mul-pos, mul-le-mul, mul-le-mul_left, pow-le-pow_right}
use Rattle.card_sets.specs.declared.games.Side.TheVariants.{High}
use Rattle.runout_ranges.specs.declared.limits.TheConstants.{RUNOUT_MAX}
use Rattle.runout_ranges.proofs.CallerLemmas.{binomial_some}
use Rattle.runout_ranges.specs.Runouts.{HasMember}
use Rattle.showdown_tally.specs.CountLaws.{units_small}
use Rattle.showdown_tally.specs.Showdown.{wins, ties, loses, units}
use Rattle.showdown_tally.specs.Tallies.{runouts_after}
use Rattle.range_lines.specs.declared.spot.Weighted.{Weighted}
use Rattle.range_lines.specs.declared.tally.RangeTally.{RangeTally}
use Rattle.range_lines.specs.Choices.{taken_from, is_disjoint, choices, weight_of, deal_of_choice, full_runouts, full_cell, full_units, most_choices, full_weight, runouts_of_choice, are_above, has_no_choice}
use Rattle.range_lines.specs.Counted.{IsTallyOf, IsSmall}
use Rattle.range_lines.specs.Sound.{AreHands, AreRanges, IsSound}
use Rattle.range_lines.specs.RangeSpot.{Ranges}

-- a choice of so many hands with weights from 1 to 100
record IsWeighed (n : ℕ) (choice : List Weighted) : Type 0 where
  some : 0 < weight_of choice
  most : weight_of choice ≤ 100 ^ n

power_more : (n : ℕ) → 100 ^ suc n ≡ 100 * 100 ^ n
power_more n = omega arith

first_weighed : (n : ℕ) (w : Weighted) (rests : List (List Weighted)) → 0 < w.weight → w.weight ≤ 100 → All (IsWeighed n) rests → All (IsWeighed (suc n)) (map (λ rest. w ∷ rest) rests)
first_weighed n w rests s l all =
    All-map (IsWeighed (suc n)) (λ rest. w ∷ rest) rests
    (All-weaker (IsWeighed n) (λ rest. IsWeighed (suc n) (w ∷ rest)) (λ rest r. record {
      some = mul-pos s r.some;
      most = (let both : w.weight * weight_of rest ≤ 100 * 100 ^ n = mul-le-mul l r.most in omega (arith, both, power_more n));
    }) rests all)

each_weighed : (board dead : List ℕ) (n : ℕ) (range : List Weighted) (rests : List (List Weighted)) → AreHands board dead range → All (IsWeighed n) rests →
    All (IsWeighed (suc n)) (flat_map (λ first. map (λ rest. first ∷ rest) rests) range)
each_weighed board dead n [] rests h all = All-nil (IsWeighed (suc n))
each_weighed board dead n (w ∷ range) rests h all =
    All-append (IsWeighed (suc n)) (map (λ rest. w ∷ rest) rests) (flat_map (λ first. map (λ rest. first ∷ rest) rests) range)
    (first_weighed n w rests h.0.some h.0.light all) (each_weighed board dead n range rests h.1 all)

taken_weighed : (board dead : List ℕ) (ranges : List (List Weighted)) → AreRanges board dead ranges → All (IsWeighed (length ranges)) (taken_from ranges)
taken_weighed board dead [] h = All-cons (IsWeighed 0) [] [] (record { some = omega arith; most = omega arith }) (All-nil (IsWeighed 0))
taken_weighed board dead (range ∷ ranges) h = each_weighed board dead (length ranges) range (taken_from ranges) h.0.each (taken_weighed board dead ranges h.1)

-- how many choices there are
flat_length : (rests : List (List Weighted)) (range : List Weighted) → length (flat_map (λ first. map (λ rest. first ∷ rest) rests) range) ≡ length range * length rests
flat_length rests [] = omega arith
flat_length rests (w ∷ range) =
    omega (
      arith,
      length-append (map (λ rest. w ∷ rest) rests) (flat_map (λ first. map (λ rest. first ∷ rest) rests) range),
      length-map rests (λ rest. w ∷ rest),
      flat_length rests range,
    )

taken_length : (ranges : List (List Weighted)) → length (taken_from ranges) ≡ most_choices ranges
taken_length [] = refl
taken_length (range ∷ ranges) = flat_length (taken_from ranges) range ∙ ap (λ n. length range * n) (taken_length ranges)

pub choices_few : (ranges : List (List Weighted)) → length (choices ranges) ≤ most_choices ranges
choices_few ranges = omega (arith, length-filter is_disjoint (taken_from ranges), count_by-le-length is_disjoint (taken_from ranges), taken_length ranges)

-- how often they count together
total_least : (n : ℕ) (xs : List (List Weighted)) → All (IsWeighed n) xs → length xs ≤ sum_by (λ c. weight_of c * 1) xs
total_least n [] all = omega arith
total_least n (x ∷ xs) all =
    let here = All-head (IsWeighed n) x xs all in
    omega (arith, sum_by-cons (λ c. weight_of c * 1) x xs, here.some, total_least n xs (All-tail (IsWeighed n) x xs all))

total_most : (n : ℕ) (xs : List (List Weighted)) → All (IsWeighed n) xs → sum_by (λ c. weight_of c * 1) xs ≤ 100 ^ n * length xs
total_most n [] all = omega arith
total_most n (x ∷ xs) all =
    let here = All-head (IsWeighed n) x xs all in
    omega (arith, sum_by-cons (λ c. weight_of c * 1) x xs, here.most, total_most n xs (All-tail (IsWeighed n) x xs all))

-- a number that is at most so much for each choice, as often as it counts
weighed_most : (xs : List (List Weighted)) (f : List Weighted → ℕ) (most : ℕ) → ((x : List Weighted) → HasMember xs x → f x ≤ most) →
    sum_by (λ c. weight_of c * f c) xs ≤ most * sum_by (λ c. weight_of c * 1) xs
weighed_most [] f most h = omega arith
weighed_most (x ∷ xs) f most h =
    let rest = weighed_most xs f most (λ y m. h y (x ∷ m.0, m.1, ap (λ l. x ∷ l) m.2)) in
    let here : weight_of x * f x ≤ weight_of x * most = mul-le-mul_left (weight_of x) (h x ([], xs, refl)) in
    let total : most * sum_by (λ c. weight_of c * 1) (x ∷ xs) ≡ most * (weight_of x * 1 + sum_by (λ c. weight_of c * 1) xs) = ap (λ n. most * n) (sum_by-cons (λ c. weight_of c * 1) x xs) in
    omega (arith, sum_by-cons (λ c. weight_of c * f c) x xs, total, rest, here)

within : (w p c m r : ℕ) → w ≤ p * c → p ≤ 100 ^ 4 → c ≤ m → m * r ≤ RUNOUT_MAX → r * w ≤ 20000000000000000
within w p c m r h power few above =
    let all : p * c ≤ 100000000 * m = mul-le-mul (let e : p ≤ 100000000 = omega (arith, power) in e) few in
    let more : r * w ≤ r * (100000000 * m) = mul-le-mul_left r (let e : w ≤ 100000000 * m = omega (arith, h, all) in e) in
    omega (arith, more, above)

not_below : (a b : ℕ) → nat_lt a b ≡ false → b ≤ a
not_below a b h = grind arith

some_left : (n : ℕ) → (n == 0) ≡ false → 1 ≤ n
some_left n h = grind arith

-- the numbers of one choice
units_most : (board dead : List ℕ) (hand : ℕ) (choice : List Weighted) → full_units board dead hand choice ≤ full_runouts board dead choice * 10080
units_most board dead hand choice =
    let deal = deal_of_choice board dead choice in
    sum_by-le (units deal 0 hand) 10080 (runouts_after deal.state) (λ k d below. units_small deal 0 hand (slice_index_or (runouts_after deal.state) k d))

pub small_tally : (spot : Ranges) (tally : RangeTally) → IsSound spot →
    ((choice : List Weighted) → HasMember (choices spot.ranges) choice → full_runouts spot.board spot.dead choice ≡ runouts_of_choice spot) →
    are_above RUNOUT_MAX spot ≡ false → has_no_choice spot ≡ false → IsTallyOf spot tally → IsSmall tally (length spot.ranges)
small_tally spot tally sound equal above none is =
    let all = choices spot.ranges in
    let one = runouts_of_choice spot in
    let total = full_weight spot.ranges in
    let weighed : All (IsWeighed (length spot.ranges)) all = All-filter is_disjoint (IsWeighed (length spot.ranges)) (taken_from spot.ranges) (taken_weighed spot.board spot.dead spot.ranges sound.each) in
    let power : 100 ^ length spot.ranges ≤ 100 ^ 4 = pow-le-pow_right (let z : 0 < 100 = omega arith in z) sound.four in
    let most : one * total ≤ 20000000000000000 =
    within total (100 ^ length spot.ranges) (length all) (most_choices spot.ranges) one (total_most (length spot.ranges) all weighed) power (choices_few spot.ranges) (not_below RUNOUT_MAX (most_choices spot.ranges * one) above) in
    let some_runout : 0 < one = binomial_some (52 - (length spot.board + length spot.dead + 2 * length spot.ranges)) (5 - length spot.board) (omega (arith, sound.enough)) in
    let some_choice : 0 < total = omega (arith, some_left (length all) none, total_least (length spot.ranges) all weighed) in
    let same : tally.runouts * tally.weight ≡ one * total = ap (λ r. r * tally.weight) is.each ∙ ap (λ w. one * w) is.total in
    record {
      some = (let s : 0 < one * total = mul-pos some_runout some_choice in omega (arith, s, same));
      all = omega (arith, same, most);
      wins = λ hand d below.
          let bound = weighed_most all (λ c. (full_cell spot.board spot.dead hand c).win) one
          (λ c m. omega (arith, count_by-le-length (wins (deal_of_choice spot.board spot.dead c) 0 hand High) (runouts_after (deal_of_choice spot.board spot.dead c).state), equal c m)) in
          omega (arith, (is.ends hand d below).wins, bound, most);
      ties = λ hand d below.
          let bound = weighed_most all (λ c. (full_cell spot.board spot.dead hand c).tie) one
          (λ c m. omega (arith, count_by-le-length (ties (deal_of_choice spot.board spot.dead c) 0 hand High) (runouts_after (deal_of_choice spot.board spot.dead c).state), equal c m)) in
          omega (arith, (is.ends hand d below).ties, bound, most);
      losses = λ hand d below.
          let bound = weighed_most all (λ c. (full_cell spot.board spot.dead hand c).lose) one
          (λ c m. omega (arith, count_by-le-length (loses (deal_of_choice spot.board spot.dead c) 0 hand High) (runouts_after (deal_of_choice spot.board spot.dead c).state), equal c m)) in
          omega (arith, (is.ends hand d below).losses, bound, most);
      given = λ hand below.
          let bound = weighed_most all (full_units spot.board spot.dead hand) (one * 10080)
          (λ c m. omega (arith, units_most spot.board spot.dead hand c, equal c m)) in
          omega (arith, is.given hand below, bound, most);
    }
