-- The tally that boards make is that of the choices.
use Rattle.std.proofs.Common.{◌≡◌, ℕ, ◌+◌, ◌-◌, ◌*◌, ◌/◌, ◌<◌, ◌≤◌, ◌^◌, List, [], ◌∷◌, length, refl, sym, ap, ◌∙◌, arith, true, false, cond, inl, inr}
use Rattle.std.specs.Prelude.{nat_lt}
use Rattle.std.specs.List.{sum_by}
use Rattle.std.proofs.lemmas.Bool.{cases_lt}
use Rattle.std.proofs.lemmas.List.Sums.{sum_by-cons}
use Rattle.std.proofs.lemmas.Nat.{mul-le}
use Rattle.std.proofs.Math.Nat.{mul-div_cancel_left, pow-le-pow_right}
use Rattle.card_sets.specs.PlayerSets.{hands_below}
use Rattle.runout_ranges.specs.declared.limits.TheConstants.{RUNOUT_MAX}
use Rattle.runout_ranges.specs.Slots.{unseen}
use Rattle.runout_ranges.specs.Ways.{binomial}
use Rattle.runout_ranges.proofs.CallerLemmas.{binomial_small}
use Rattle.showdown_tally.specs.SetShares.{set_cell}
use Rattle.showdown_tally.specs.Showdown.{part_of}
use Rattle.showdown_tally.specs.Tallies.{runouts_after}
use Rattle.hand_ranges.specs.declared.ends.Ends.{Ends}
use Rattle.range_lines.specs.declared.spot.Weighted.{Weighted}
use Rattle.hand_ranges.specs.Boards.{boards_add, ends_number, worth}
use Rattle.range_lines.specs.Choices.{are_above, deal_of_choice, full_cell, full_units, is_disjoint, runouts_of_choice, walked, weight_of}
use Rattle.range_lines.specs.RangeSpot.{Ranges}
use Rattle.range_lines.specs.Sound.{AreHands, IsSound}
use Rattle.range_lines.specs.Walks.{Column, Choices, Weight, Wins, Ties, Losses, Units, all_added}
use Rattle.hand_ranges.proofs.ApartChoices.{length_walked, sum_none, walked_none}
use Rattle.hand_ranges.proofs.BoardSums.{walked_alike, walked_times}
use Rattle.range_lines.proofs.CallerLemmas.{of_twos}
use Rattle.hand_ranges.proofs.ChoiceEnds.{KeepsOrder, boards_walked, losses_over, over_runouts, ties_over, units_over_all, wins_over}
use Rattle.hand_ranges.proofs.EndSums.{worth_none}
use Rattle.range_lines.proofs.CallerLemmas.{choice_runouts, most_few, runouts_some}
use Rattle.range_lines.proofs.CallerLemmas.{choices_few}

-- what the counts are worth beside all boards
abbrev pub AreOverBoards : Ranges → Ends → Type 0
AreOverBoards spot ends = (by_set : ℕ → ℕ) (each : ℕ) → worth ends by_set each ≡ boards_add spot.ranges spot.board (5 - length spot.board) (unseen (of_twos spot.board spot.dead [])) by_set each

-- it is a walk over any number that each choice has so
worth_walked : (spot : Ranges) (ends : Ends) (by_set : ℕ → ℕ) (each : ℕ) (number : List Weighted → ℕ) → IsSound spot → KeepsOrder → AreOverBoards spot ends
    → ((choice : List Weighted) → AreHands spot.board spot.dead choice → is_disjoint choice ≡ true → length choice ≡ length spot.ranges
    → weight_of choice * over_runouts spot.board spot.dead by_set choice + each * runouts_of_choice spot ≡ number choice)
    → worth ends by_set each ≡ walked spot.ranges [] number
worth_walked spot ends by_set each number sound keeps over same =
    over by_set each ∙ boards_walked spot by_set each sound keeps
    ∙ walked_alike spot.board spot.dead (length spot.ranges) spot.ranges [] _ number sound.each tt refl (omega arith) same

ones : {X : Type 0} (xs : List X) → sum_by (λ x. 1) xs ≡ length xs
ones [] = refl
ones (x ∷ xs) = omega (arith, ones xs, sum_by-cons (λ x. 1) x xs)

-- how many choices there are, each as often as it has runouts
pub choices_worth : (spot : Ranges) (ends : Ends) → IsSound spot → KeepsOrder → AreOverBoards spot ends → ends.choices ≡ runouts_of_choice spot * walked spot.ranges [] (λ choice. 1)
choices_worth spot ends sound keeps over =
    let all : worth ends (λ set. 0) 1 ≡ walked spot.ranges [] (λ choice. runouts_of_choice spot * 1) =
    worth_walked spot ends (λ set. 0) 1 (λ choice. runouts_of_choice spot * 1) sound keeps over (λ choice are d long. none (weight_of choice) (over_runouts spot.board spot.dead (λ set. 0) choice) (runouts_of_choice spot) (sum_none (runouts_after (deal_of_choice spot.board spot.dead choice).state))) in
    let zero : worth ends (λ set. 0) 1 ≡ ends.choices = omega (arith, worth_none ends.sets 0) in
    sym zero ∙ all ∙ walked_times spot.ranges [] (runouts_of_choice spot) (λ choice. 1)
  where
    none : (weight over runouts : ℕ) → over ≡ 0 → weight * over + 1 * runouts ≡ runouts * 1
    none weight over runouts e = ap (λ n. weight * n + 1 * runouts) e ∙ (let z : weight * 0 + 1 * runouts ≡ runouts * 1 = omega arith in z)

weights_worth : (spot : Ranges) (ends : Ends) → IsSound spot → KeepsOrder → AreOverBoards spot ends → worth ends (λ set. 1) 0 ≡ runouts_of_choice spot * walked spot.ranges [] weight_of
weights_worth spot ends sound keeps over =
    worth_walked spot ends (λ set. 1) 0 (λ choice. runouts_of_choice spot * weight_of choice) sound keeps over
    (λ choice are d long. whole (weight_of choice) _ (runouts_of_choice spot) (ones (runouts_after (deal_of_choice spot.board spot.dead choice).state) ∙ choice_runouts spot choice sound are d long))
    ∙ walked_times spot.ranges [] (runouts_of_choice spot) weight_of
  where
    whole : (weight over runouts : ℕ) → over ≡ runouts → weight * over + 0 * runouts ≡ runouts * weight
    whole weight over runouts e = ap (λ n. weight * n + 0 * runouts) e ∙ (let z : weight * runouts + 0 * runouts ≡ runouts * weight = omega arith in z)

one_more : (weight over runouts x : ℕ) → over ≡ x → weight * over + 0 * runouts ≡ weight * x
one_more weight over runouts x e = ap (λ n. weight * n + 0 * runouts) e ∙ (let z : weight * x + 0 * runouts ≡ weight * x = omega arith in z)

-- a player's number, or nothing for one that there isn't
of_player : (ranges : List (List Weighted)) (hand n : ℕ) (x : ℕ) (number : List Weighted → ℕ) → n ≡ length ranges → (hand < n → x ≡ walked ranges [] number)
    → cond (nat_lt hand n) x 0 ≡ walked ranges [] (λ choice. cond (nat_lt hand (length ranges)) (number choice) 0)
of_player ranges hand n x number is same = rw (← is) (elim (cases_lt hand n) [
  | inl l ↦ let a : nat_lt hand n ≡ true = grind arith in rw a (same l)
  | inr g ↦ let a : nat_lt hand n ≡ false = grind arith in rw a (sym (walked_none ranges []))
])

pub boards_tally : (spot : Ranges) (ends : Ends) (n runouts : ℕ) → IsSound spot → KeepsOrder → AreOverBoards spot ends → n ≡ length spot.ranges → runouts ≡ runouts_of_choice spot
    → (column : Column) → ends_number ends n runouts column ≡ all_added spot spot.ranges [] column
boards_tally spot ends n runouts sound keeps over is each Choices =
    ap (λ k. ends.choices / k) each ∙ ap (λ k. k / runouts_of_choice spot) (choices_worth spot ends sound keeps over) ∙ mul-div_cancel_left (walked spot.ranges [] (λ choice. 1)) (runouts_some spot sound)
boards_tally spot ends n runouts sound keeps over is each Weight =
    ap (λ k. worth ends (λ set. 1) 0 / k) each ∙ ap (λ k. k / runouts_of_choice spot) (weights_worth spot ends sound keeps over) ∙ mul-div_cancel_left (walked spot.ranges [] weight_of) (runouts_some spot sound)
boards_tally spot ends n runouts sound keeps over is each (Wins hand) =
    of_player spot.ranges hand n _ (λ choice. weight_of choice * (full_cell spot.board spot.dead hand choice).win) is
    (λ l. worth_walked spot ends (λ set. (set_cell n hand set).win) 0 _ sound keeps over (λ choice are d long. one_more (weight_of choice) _ (runouts_of_choice spot) _ (wins_over spot.board spot.dead choice hand n (long ∙ sym is) l)))
boards_tally spot ends n runouts sound keeps over is each (Ties hand) =
    of_player spot.ranges hand n _ (λ choice. weight_of choice * (full_cell spot.board spot.dead hand choice).tie) is
    (λ l. worth_walked spot ends (λ set. (set_cell n hand set).tie) 0 _ sound keeps over (λ choice are d long. one_more (weight_of choice) _ (runouts_of_choice spot) _ (ties_over spot.board spot.dead choice hand n (long ∙ sym is) l)))
boards_tally spot ends n runouts sound keeps over is each (Losses hand) =
    of_player spot.ranges hand n _ (λ choice. weight_of choice * (full_cell spot.board spot.dead hand choice).lose) is
    (λ l. worth_walked spot ends (λ set. (set_cell n hand set).lose) 0 _ sound keeps over (λ choice are d long. one_more (weight_of choice) _ (runouts_of_choice spot) _ (losses_over spot.board spot.dead choice hand n (long ∙ sym is) l)))
boards_tally spot ends n runouts sound keeps over is each (Units hand) =
    of_player spot.ranges hand n _ (λ choice. weight_of choice * full_units spot.board spot.dead hand choice) is
    (λ l. worth_walked spot ends (λ set. part_of 5040 (hands_below set n) hand) 0 _ sound keeps over (λ choice are d long. one_more (weight_of choice) _ (runouts_of_choice spot) _ (units_over_all spot.board spot.dead choice hand n (long ∙ sym is))))

-- ---- how large they are

pub few_choices : (spot : Ranges) (ends : Ends) (runouts : ℕ) → IsSound spot → KeepsOrder → AreOverBoards spot ends → runouts ≡ runouts_of_choice spot → are_above RUNOUT_MAX spot ≡ false → ends.choices / runouts ≤ RUNOUT_MAX
few_choices spot ends runouts sound keeps over each within =
    let number : ends.choices / runouts ≡ walked spot.ranges [] (λ choice. 1) = boards_tally spot ends (length spot.ranges) runouts sound keeps over refl each Choices in
    omega (arith, number, length_walked spot.ranges, choices_few spot.ranges, most_few spot sound within)

pub few_ways : (n k most : ℕ) → n ≤ 52 → most ≤ RUNOUT_MAX → binomial n k * most ≤ 2 ^ 80
few_ways n k most l few =
    let power : 2 ^ n ≤ 2 ^ 52 = pow-le-pow_right (let some : 0 < 2 = omega arith in some) l in
    let product : binomial n k * most ≤ 2 ^ 52 * 2 ^ 28 = mul-le (binomial n k) most (2 ^ 52) (2 ^ 28) (omega (arith, binomial_small n k, power)) (omega (arith, few)) in
    omega (arith, product)
