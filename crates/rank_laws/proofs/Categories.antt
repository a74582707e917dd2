-- What makes each category.
use Rattle.std.proofs.Common.{◌≡◌, ◌≢◌, ℕ, suc, zero, ◌≤◌, ◌<◌, ◌==◌, List, ◌∷◌, [], refl, ap, ◌∙◌, arith, Bool, true, false, cond, length, length-append, inl, inr}
use Rattle.std.specs.Prelude.{nat_lt}
use Rattle.std.proofs.lemmas.Bool.{cases_eq}
use Rattle.rank_high.specs.High.{is_flush, is_straight, groups, group_count, category, category_of, count_of_rank, ranks_below, ranks_counted}
use Rattle.rank_laws.specs.HighHands.{IsFive, IsUsualCategory, HasOfRank}
use Rattle.rank_high.proofs.CallerLemmas.{group_sizes, length-groups_counted}
use Rattle.rank_laws.proofs.HandCategories.{group_count-some, group_count-two, not_straight, not_flush, flush_ranks, category-straight, category_of-pairs}
use Rattle.rank_high.proofs.CallerLemmas.{none_counted}

one_counted : (f : ℕ → ℕ) (size only n : ℕ) → ((k : ℕ) → k < n → k ≢ only → f k ≢ size) → length (ranks_below f size n) ≤ 1
one_counted f size only zero h = omega arith
one_counted f size only (suc n) h = elim (cases_eq n only) [
  | inl same ↦
      let none : length (ranks_below f size n) ≡ 0 = none_counted f size n (λ k l. h k (omega arith) (λ e. absurd (omega arith))) in
      omega (arith, length-append (cond (f n == size) (n ∷ []) []) (ranks_below f size n), at_most_one (f n == size))
  | inr ne ↦
      let other : f n ≢ size = h n (omega arith) ne in
      let no : (f n == size) ≡ false = grind arith in
      let ih : length (ranks_below f size n) ≤ 1 = one_counted f size only n (λ k l. h k (omega arith)) in
      rw no ih
]
  where
    at_most_one : (b : Bool) → length (cond b (n ∷ []) []) ≤ 1
    at_most_one true = omega arith
    at_most_one false = omega arith

group_count-none : (five : List ℕ) (size : ℕ) → ((rank : ℕ) → rank < 13 → count_of_rank five rank ≢ size) → group_count five size ≡ 0
unfolding ranks_counted
group_count-none five size h = none_counted (count_of_rank five) size 13 h

group_count-one : (five : List ℕ) (size only : ℕ) → ((rank : ℕ) → rank < 13 → rank ≢ only → count_of_rank five rank ≢ size) → group_count five size ≤ 1
unfolding ranks_counted
group_count-one five size only h = one_counted (count_of_rank five) size only 13 h

category_of-fours : (flush : Bool) (fours threes pairs : ℕ) → 0 < fours → category_of false flush fours threes pairs ≡ 7
unfolding category_of
category_of-fours flush fours threes pairs h = let t : nat_lt 0 fours ≡ true = grind arith in rw t refl

category_of-full : (flush : Bool) (fours threes pairs : ℕ) → fours ≡ 0 → 0 < threes → 0 < pairs → category_of false flush fours threes pairs ≡ 6
unfolding category_of
category_of-full flush fours threes pairs e h i =
    let t : nat_lt 0 threes ≡ true = grind arith in
    let u : nat_lt 0 pairs ≡ true = grind arith in
    rw (e, t, u) refl

category_of-three : (fours threes pairs : ℕ) → fours ≡ 0 → 0 < threes → pairs ≡ 0 → category_of false false fours threes pairs ≡ 3
unfolding category_of
category_of-three fours threes pairs e h i = let t : nat_lt 0 threes ≡ true = grind arith in rw (e, t, i) refl

category_of-all_different : (fours threes pairs : ℕ) → fours ≡ 0 → threes ≡ 0 → category_of false true fours threes pairs ≡ 5
unfolding category_of
category_of-all_different fours threes pairs e i = rw (e, i) refl

-- of two sizes, few groups are no straight
few_groups : (five : List ℕ) → length (groups five) ≤ 4 → is_straight (groups five) ≡ false
few_groups five h = not_straight (groups five) (λ e. omega arith)

four : (five : List ℕ) (rank : ℕ) → IsFive five → HasOfRank five 4 rank → category five ≡ 7
four five rank whole has =
    let some : 0 < group_count five 4 = group_count-some five 4 rank has.0 has.1 in
    let few = group_sizes five in
    let parts = length-groups_counted (count_of_rank five) in
    let bent : is_straight (groups five) ≡ false = few_groups five (omega arith) in
    (rw bent (category_of-fours (is_flush five) (group_count five 4) (group_count five 3) (group_count five 2) some))

full : (five : List ℕ) (three pair : ℕ) → IsFive five → HasOfRank five 3 three → HasOfRank five 2 pair → category five ≡ 6
full five three pair whole has_three has_pair =
    let threes : 0 < group_count five 3 = group_count-some five 3 three has_three.0 has_three.1 in
    let pairs : 0 < group_count five 2 = group_count-some five 2 pair has_pair.0 has_pair.1 in
    let few = group_sizes five in
    let parts = length-groups_counted (count_of_rank five) in
    let bent : is_straight (groups five) ≡ false = few_groups five (omega arith) in
    (rw bent (category_of-full (is_flush five) (group_count five 4) (group_count five 3) (group_count five 2) (omega arith) threes pairs))

three_alone : (five : List ℕ) (three : ℕ) → IsFive five → HasOfRank five 3 three → ((rank : ℕ) → HasOfRank five 2 rank → ⊥) → category five ≡ 3
three_alone five three whole has alone =
    let threes : 0 < group_count five 3 = group_count-some five 3 three has.0 has.1 in
    let pairs : group_count five 2 ≡ 0 = group_count-none five 2 (λ rank h e. alone rank (h, e)) in
    let few = group_sizes five in
    let parts = length-groups_counted (count_of_rank five) in
    let bent : is_straight (groups five) ≡ false = few_groups five (omega arith) in
    let plain : is_flush five ≡ false = not_flush five three whole.0 (omega arith) in
    (rw (bent, plain) (category_of-three (group_count five 4) (group_count five 3) (group_count five 2) (omega arith) threes pairs))

pairs_only : (five : List ℕ) (pair : ℕ) → IsFive five → HasOfRank five 2 pair → group_count five 4 ≡ 0 → group_count five 3 ≡ 0 → category five ≡ group_count five 2
pairs_only five pair whole has no_four no_three =
    let some : 0 < group_count five 2 = group_count-some five 2 pair has.0 has.1 in
    let few = group_sizes five in
    let parts = length-groups_counted (count_of_rank five) in
    let bent : is_straight (groups five) ≡ false = few_groups five (omega arith) in
    let plain : is_flush five ≡ false = not_flush five pair whole.0 (omega arith) in
    (rw (bent, plain) (category_of-pairs (group_count five 4) (group_count five 3) (group_count five 2) no_four no_three))

two_pairs : (five : List ℕ) (pair other : ℕ) → IsFive five → pair ≢ other → HasOfRank five 2 pair → HasOfRank five 2 other → category five ≡ 2
two_pairs five pair other whole ne has also =
    let two : 2 ≤ group_count five 2 = group_count-two five 2 pair other has.0 also.0 ne has.1 also.1 in
    let few = group_sizes five in
    pairs_only five pair whole has (omega arith) (omega arith) ∙ omega arith

one_pair : (five : List ℕ) (pair : ℕ) → IsFive five → HasOfRank five 2 pair → ((rank : ℕ) → rank < 13 → rank ≢ pair → count_of_rank five rank ≤ 1) → category five ≡ 1
one_pair five pair whole has rest =
    let some : 0 < group_count five 2 = group_count-some five 2 pair has.0 has.1 in
    let no_four : group_count five 4 ≡ 0 = group_count-none five 4 (λ rank h e. four_is_none rank h e) in
    let no_three : group_count five 3 ≡ 0 = group_count-none five 3 (λ rank h e. three_is_none rank h e) in
    let one : group_count five 2 ≤ 1 = group_count-one five 2 pair (λ rank h ne e. omega (arith, rest rank h ne)) in
    pairs_only five pair whole has no_four no_three ∙ omega arith
  where
    four_is_none : (rank : ℕ) → rank < 13 → count_of_rank five rank ≡ 4 → ⊥
    four_is_none rank h e = elim (cases_eq rank pair) [
      | inl same ↦ omega (arith, ap (count_of_rank five) same, has.1)
      | inr ne ↦ omega (arith, rest rank h ne)
    ]

    three_is_none : (rank : ℕ) → rank < 13 → count_of_rank five rank ≡ 3 → ⊥
    three_is_none rank h e = elim (cases_eq rank pair) [
      | inl same ↦ omega (arith, ap (count_of_rank five) same, has.1)
      | inr ne ↦ omega (arith, rest rank h ne)
    ]

no_pairs : (five : List ℕ) → ((rank : ℕ) → rank < 13 → count_of_rank five rank ≤ 1) → is_straight (groups five) ≡ false → is_flush five ≡ false → category five ≡ 0
no_pairs five single bent plain =
    let no_four : group_count five 4 ≡ 0 = group_count-none five 4 (λ rank h e. omega (arith, single rank h)) in
    let no_three : group_count five 3 ≡ 0 = group_count-none five 3 (λ rank h e. omega (arith, single rank h)) in
    let no_two : group_count five 2 ≡ 0 = group_count-none five 2 (λ rank h e. omega (arith, single rank h)) in
    (rw (bent, plain) (category_of-pairs (group_count five 4) (group_count five 3) (group_count five 2) no_four no_three ∙ no_two))

flush_only : (five : List ℕ) → IsFive five → is_straight (groups five) ≡ false → is_flush five ≡ true → category five ≡ 5
flush_only five whole bent flush =
    let no_four : group_count five 4 ≡ 0 = group_count-none five 4 (λ rank h e. omega (arith, flush_ranks five rank whole.0 flush)) in
    let no_three : group_count five 3 ≡ 0 = group_count-none five 3 (λ rank h e. omega (arith, flush_ranks five rank whole.0 flush)) in
    (rw (bent, flush) (category_of-all_different (group_count five 4) (group_count five 3) (group_count five 2) no_four no_three))

pub category-IsUsual : (five : List ℕ) → IsFive five → IsUsualCategory five
category-IsUsual five whole = record {
  straight_flush = λ straight flush. category-straight five whole.1 straight ∙ ap (λ f. cond f 8 4) flush;
  four_of_a_kind = λ rank has. four five rank whole has;
  full_house = λ three pair has also. full five three pair whole has also;
  flush = λ bent flush. flush_only five whole bent flush;
  straight = λ straight plain. category-straight five whole.1 straight ∙ ap (λ f. cond f 8 4) plain;
  three_of_a_kind = λ three has alone. three_alone five three whole has alone;
  two_pair = λ pair other ne has also. two_pairs five pair other whole ne has also;
  one_pair = λ pair has rest. one_pair five pair whole has rest;
  no_pair = λ single bent plain. no_pairs five single bent plain;
}
