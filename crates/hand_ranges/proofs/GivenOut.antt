-- Each runout of each choice ends in one way for a player, and its pot is given out whole.
use Rattle.std.proofs.Common.{◌≡◌, ℕ, zero, suc, ◌+◌, ◌*◌, ◌<◌, ◌≤◌, List, [], ◌∷◌, ◌++◌, map, length, length-append, refl, sym, ap, ◌∙◌, arith, Bool, true, false, cond, ◌==◌, ◌||◌, inl, inr}
use Rattle.std.specs.Prelude.{filter}
use Rattle.std.specs.List.{sum_by, list_any}
use Rattle.std.proofs.lemmas.Bool.{cases_eq}
use Rattle.std.proofs.lemmas.List.Sums.{sum_by-cons}
use Rattle.card_sets.specs.Games.{has_side}
use Rattle.card_sets.specs.declared.games.Side.{Side}
use Rattle.card_sets.specs.declared.games.Side.TheVariants.{High}
use Rattle.showdown_tally.specs.Laws.{AddUp, EndsOneWay}
use Rattle.showdown_tally.specs.Showdown.{Showdown, eligible_in, is_among, plays, units}
use Rattle.showdown_tally.specs.Tallies.{runouts_after}
use Rattle.range_lines.specs.declared.spot.Weighted.{Weighted}
use Rattle.range_lines.specs.Choices.{choices, deal_of_choice, full_cell, full_units, full_weight, is_disjoint, numbers_below, over_choices, runouts_of_choice, taken_from, weight_of}
use Rattle.range_lines.specs.Counted.{wins_of, ties_of, losses_of, units_of}
use Rattle.range_lines.specs.RangeSpot.{Ranges}
use Rattle.range_lines.specs.Sound.{AreHands, IsSound}
use Rattle.hand_ranges.proofs.ApartChoices.{choices_walked}
use Rattle.hand_ranges.proofs.BoardSums.{sum_both, sum_swap, walked_alike, walked_times}
use Rattle.range_lines.proofs.CallerLemmas.{choice_runouts}

-- a sum over the choices, where each has so much as often as it counts
over_equal : (spot : Ranges) (number : List Weighted → ℕ) (each : ℕ) → IsSound spot
    → ((choice : List Weighted) → AreHands spot.board spot.dead choice → is_disjoint choice ≡ true → length choice ≡ length spot.ranges → number choice ≡ each * (weight_of choice * 1))
    → sum_by number (choices spot.ranges) ≡ each * full_weight spot.ranges
over_equal spot number each sound same =
    choices_walked spot.ranges number
    ∙ walked_alike spot.board spot.dead (length spot.ranges) spot.ranges [] number (λ choice. each * (weight_of choice * 1)) sound.each tt refl (omega arith) same
    ∙ walked_times spot.ranges [] each (λ choice. weight_of choice * 1)
    ∙ ap (λ n. each * n) (sym (choices_walked spot.ranges (λ choice. weight_of choice * 1)))

-- every hand of a choice plays
among_below : (n hand : ℕ) → hand < n → is_among hand (numbers_below n) ≡ true
among_below zero hand l = absurd (omega arith)
among_below (suc n) hand l = any_append (λ j. j == hand) (numbers_below n) (n ∷ []) ∙ elim (cases_eq n hand) [
  | inl e ↦ let t : (n == hand) ≡ true = grind arith in rw t (or_true (list_any (λ j. j == hand) (numbers_below n)))
  | inr ne ↦ let before : list_any (λ j. j == hand) (numbers_below n) ≡ true = among_below n hand (omega arith) in rw before refl
]
  where
    or_true : (b : Bool) → (b || (true || false)) ≡ true
    or_true true = refl
    or_true false = refl

    regroup : (a b c : Bool) → (a || (b || c)) ≡ ((a || b) || c)
    regroup true b c = refl
    regroup false b c = refl

    any_append : (p : ℕ → Bool) (a b : List ℕ) → list_any p (a ++ b) ≡ (list_any p a || list_any p b)
    any_append p [] b = refl
    any_append p (x ∷ a) b = ap (λ t. p x || t) (any_append p a b) ∙ regroup (p x) (list_any p a) (list_any p b)

together : (w x y z r : ℕ) → x + y + z ≡ r → w * x + w * y + w * z ≡ r * (w * 1)
together w x y z r e = (let split : w * x + w * y + w * z ≡ w * (x + y + z) = omega arith in split) ∙ ap (λ n. w * n) e ∙ (let turn : w * r ≡ r * (w * 1) = omega arith in turn)

pub ends_one_way : (spot : Ranges) (hand : ℕ) → IsSound spot → ((deal : Showdown) (all : List (List (List ℕ))) (pot hand : ℕ) (side : Side) → EndsOneWay deal all pot hand side) → hand < length spot.ranges
    → wins_of spot hand + ties_of spot hand + losses_of spot hand ≡ runouts_of_choice spot * full_weight spot.ranges
ends_one_way spot hand sound one l =
    let cell = full_cell spot.board spot.dead hand in
    let x : List Weighted → ℕ = λ c. weight_of c * (cell c).win in
    let y : List Weighted → ℕ = λ c. weight_of c * (cell c).tie in
    let z : List Weighted → ℕ = λ c. weight_of c * (cell c).lose in
    ap (λ n. n + losses_of spot hand) (sym (sum_both x y (choices spot.ranges)))
    ∙ sym (sum_both (λ c. x c + y c) z (choices spot.ranges))
    ∙ over_equal spot (λ c. x c + y c + z c) (runouts_of_choice spot) sound
    (λ c are d long.
    let deal = deal_of_choice spot.board spot.dead c in
    let in_game : plays deal 0 hand High ≡ true = among_below (length c) hand (omega (arith, long, l)) in
    together (weight_of c) (cell c).win (cell c).tie (cell c).lose (runouts_of_choice spot) ((one deal (runouts_after deal.state) 0 hand High).playing in_game ∙ choice_runouts spot c sound are d long))

-- the units of all players
sum_const : {X : Type 0} (f : X → ℕ) (k : ℕ) (xs : List X) → ((x : X) → f x ≡ k) → sum_by f xs ≡ k * length xs
sum_const f k [] same = omega arith
sum_const f k (x ∷ xs) same =
    let up : k * suc (length xs) ≡ k + k * length xs = omega arith in
    omega (arith, up, sum_by-cons f x xs, same x, sum_const f k xs same)

sum_out : {X : Type 0} (w : ℕ) (f : X → ℕ) (xs : List X) → sum_by (λ x. w * f x) xs ≡ w * sum_by f xs
sum_out w f [] = sym (omega arith)
sum_out w f (x ∷ xs) =
    sum_by-cons (λ x. w * f x) x xs ∙ ap (λ n. w * f x + n) (sum_out w f xs) ∙ (let split : w * f x + w * sum_by f xs ≡ w * (f x + sum_by f xs) = omega arith in split) ∙ ap (λ n. w * n) (sym (sum_by-cons f x xs))

length_below : (n : ℕ) → length (numbers_below n) ≡ n
length_below zero = refl
length_below (suc n) = omega (arith, length-append (numbers_below n) (n ∷ []), length_below n)

turn_product : (w r : ℕ) → w * (5040 * r) ≡ (5040 * r) * (w * 1)
turn_product w r = omega arith

pub units_given : (spot : Ranges) → IsSound spot → ((deal : Showdown) (runout : List (List ℕ)) (pot : ℕ) → has_side High deal.state.game ≡ true → 0 < length (eligible_in deal pot) → length (eligible_in deal pot) ≤ 10 → AddUp deal runout pot)
    → sum_by (units_of spot) (numbers_below (length spot.ranges)) ≡ 5040 * runouts_of_choice spot * full_weight spot.ranges
units_given spot sound whole =
    let n = length spot.ranges in
    sum_swap (λ hand c. weight_of c * full_units spot.board spot.dead hand c) (numbers_below n) (choices spot.ranges)
    ∙ over_equal spot (λ c. sum_by (λ hand. weight_of c * full_units spot.board spot.dead hand c) (numbers_below n)) (5040 * runouts_of_choice spot) sound
    (λ c are d long.
    let deal = deal_of_choice spot.board spot.dead c in
    let all = runouts_after deal.state in
    let size : length (numbers_below (length c)) ≡ length c = length_below (length c) in
    let runouts : length all ≡ runouts_of_choice spot = choice_runouts spot c sound are d long in
    sum_out (weight_of c) (λ hand. full_units spot.board spot.dead hand c) (numbers_below n)
    ∙ ap (λ k. weight_of c * k) (ap (λ m. sum_by (λ hand. sum_by (units deal 0 hand) all) (numbers_below m)) (sym long) ∙ sum_swap (λ hand r. units deal 0 hand r) (numbers_below (length c)) all
    ∙ sum_const (λ r. sum_by (λ hand. units deal 0 hand r) (numbers_below (length c))) 5040 all (λ r. whole deal r 0 refl (omega (arith, size, long, sound.two)) (omega (arith, size, long, sound.four)))
    ∙ ap (λ k. 5040 * k) runouts)
    ∙ turn_product (weight_of c) (runouts_of_choice spot))

-- ---- one hand each

one_choice : (choice : List Weighted) → taken_from (map (λ w. w ∷ []) choice) ≡ choice ∷ []
one_choice [] = refl
one_choice (w ∷ choice) = ap (λ rests. map (λ rest. w ∷ rest) rests ++ []) (one_choice choice)

pub over_one : (choice : List Weighted) (number : List Weighted → ℕ) → is_disjoint choice ≡ true → weight_of choice ≡ 1 → over_choices number (map (λ w. w ∷ []) choice) ≡ number choice
over_one choice number d one =
    ap (λ all. sum_by (λ c. weight_of c * number c) (filter is_disjoint all)) (one_choice choice)
    ∙ ap (λ b. sum_by (λ c. weight_of c * number c) (cond b (choice ∷ []) [])) d
    ∙ sum_by-cons (λ c. weight_of c * number c) choice []
    ∙ ap (λ w. w * number choice + 0) one
    ∙ (let z : 1 * number choice + 0 ≡ number choice = omega arith in z)
