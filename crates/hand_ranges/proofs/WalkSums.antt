-- The sums of a walk over a range, hand after hand, and of a whole walk.
use Rattle.std.proofs.Common.{◌≡◌, ℕ, ◌+◌, ◌*◌, ◌<◌, ◌≤◌, List, [], ◌∷◌, ◌++◌, take, length, get_or, refl, sym, ap, ◌∙◌, arith, true, false, cond}
use Rattle.std.specs.Prelude.{nat_lt, slice_index, slice_index_or}
use Rattle.std.specs.List.{sum_by}
use Rattle.std.proofs.lemmas.Bool.{lt-ltb, le-ltb}
use Rattle.std.proofs.lemmas.Nat.{mul-le}
use Rattle.std.proofs.lemmas.List.{take_all}
use Rattle.std.proofs.lemmas.List.Sums.{sum_by_more}
use Rattle.range_lines.specs.declared.spot.Weighted.{Weighted}
use Rattle.range_lines.specs.declared.tally.RangeCell.{RangeCell}
use Rattle.range_lines.specs.declared.tally.RangeTally.{RangeTally}
use Rattle.range_lines.specs.Choices.{choices, is_disjoint, weight_of, walked, over_choices, full_cell, full_units, runouts_of_choice}
use Rattle.range_lines.specs.Counted.{IsTallyOf}
use Rattle.range_lines.specs.RangeSpot.{Ranges}
use Rattle.range_lines.specs.Walks.{Column, Choices, Weight, Wins, Ties, Losses, Units, none, cell_in, number_in, added_by, all_added, GrowsBy, IsAllOf, AreNoneBeyond}
use Rattle.showdown_tally.proofs.CallerLemmas.{index_default}
use Rattle.hand_ranges.proofs.ApartChoices.{choices_walked, length_walked, walked_same, walked_none}

-- what a hand of a range adds
abbrev pub step_of : (ranges : List (List Weighted)) (taken : List Weighted) (number : List Weighted → ℕ) (w : Weighted) → ℕ
step_of ranges taken number w = cond (is_disjoint (taken ++ w ∷ [])) (walked ranges (taken ++ w ∷ []) number) 0

-- what the first so many hands add
abbrev pub first_of : List Weighted → List (List Weighted) → List Weighted → ℕ → (List Weighted → ℕ) → ℕ
first_of range ranges taken i number = sum_by (step_of ranges taken number) (take i range)

pub first_next : (range : List Weighted) (ranges : List (List Weighted)) (taken : List Weighted) (i : ℕ) (d : Weighted) (number : List Weighted → ℕ) → i < length range
    → first_of range ranges taken (i + 1) number ≡ first_of range ranges taken i number + step_of ranges taken number (get_or range i d)
first_next range ranges taken i d number l = sum_by_more (step_of ranges taken number) range i d l

pub first_all : (range : List Weighted) (ranges : List (List Weighted)) (taken : List Weighted) (i : ℕ) (number : List Weighted → ℕ) → length range ≤ i → first_of range ranges taken i number ≡ walked (range ∷ ranges) taken number
first_all range ranges taken i number l = ap (sum_by (step_of ranges taken number)) (take_all i range l)

-- a hand that shares a card adds nothing
pub step_none : (ranges : List (List Weighted)) (taken : List Weighted) (number : List Weighted → ℕ) (w : Weighted) → is_disjoint (taken ++ w ∷ []) ≡ false → step_of ranges taken number w ≡ 0
step_none ranges taken number w e = rw e refl

pub step_some : (ranges : List (List Weighted)) (taken : List Weighted) (number : List Weighted → ℕ) (w : Weighted) → is_disjoint (taken ++ w ∷ []) ≡ true → step_of ranges taken number w ≡ walked ranges (taken ++ w ∷ []) number
step_some ranges taken number w e = rw e refl

-- one hand more of a range, of which each has so many choices at the most
next_times : (i m : ℕ) → (i + 1) * m ≡ i * m + m
next_times i m = omega arith

pub room_left : (old now i n m most : ℕ) → now ≤ old + i * m → i < n → old + n * m ≤ most → now + m ≤ most
room_left old now i n m most h l room =
    let up : (i + 1) * m ≤ n * m = mul-le (i + 1) m n m (omega arith) (omega arith) in
    omega (arith, h, room, up, next_times i m)

pub few_next : (old now new i m : ℕ) → now ≤ old + i * m → new ≤ now + m → new ≤ old + (i + 1) * m
few_next old now new i m h k = omega (arith, h, k, next_times i m)

pub few_skip : (old now i m : ℕ) → now ≤ old + i * m → now ≤ old + (i + 1) * m
few_skip old now i m h = omega (arith, h, next_times i m)

pub few_all : (old new i n m : ℕ) → new ≤ old + i * m → i ≤ n → new ≤ old + n * m
few_all old new i n m h l = let up : i * m ≤ n * m = mul-le i m n m l (omega arith) in omega (arith, h, up)

-- a tally that hasn't grown
pub grows_none : (old : RangeTally) (f : Column → ℕ) → ((column : Column) → f column ≡ 0) → GrowsBy old old f
grows_none old f none column = let z = none column in omega (arith, z)

-- one hand more: its choices are added, or it shares a card
pub walk_more : (old mid new : RangeTally) (spot : Ranges) (range : List Weighted) (ranges : List (List Weighted)) (taken more : List Weighted) (i : ℕ) (w : Weighted) → i < length range → get_or range i w ≡ w → more ≡ taken ++ w ∷ [] → is_disjoint (taken ++ w ∷ []) ≡ true
    → GrowsBy old mid (λ column. first_of range ranges taken i (added_by spot column)) → GrowsBy mid new (λ column. walked ranges more (added_by spot column))
    → GrowsBy old new (λ column. first_of range ranges taken (i + 1) (added_by spot column))
walk_more old mid new spot range ranges taken more i w l at is d a b column =
    let x = a column in
    let y = b column in
    let here : walked ranges more (added_by spot column) ≡ step_of ranges taken (added_by spot column) (get_or range i w) =
    ap (λ t. walked ranges t (added_by spot column)) is ∙ sym (step_some ranges taken (added_by spot column) w d) ∙ ap (step_of ranges taken (added_by spot column)) (sym at) in
    let next = first_next range ranges taken i w (added_by spot column) l in
    omega (arith, x, y, here, next)

pub walk_skip : (old mid : RangeTally) (spot : Ranges) (range : List Weighted) (ranges : List (List Weighted)) (taken : List Weighted) (i : ℕ) (w : Weighted) → i < length range → get_or range i w ≡ w → is_disjoint (taken ++ w ∷ []) ≡ false
    → GrowsBy old mid (λ column. first_of range ranges taken i (added_by spot column)) → GrowsBy old mid (λ column. first_of range ranges taken (i + 1) (added_by spot column))
walk_skip old mid spot range ranges taken i w l at d a column =
    let x = a column in
    let here : step_of ranges taken (added_by spot column) (get_or range i w) ≡ 0 = ap (step_of ranges taken (added_by spot column)) at ∙ step_none ranges taken (added_by spot column) w d in
    let next = first_next range ranges taken i w (added_by spot column) l in
    omega (arith, x, here, next)

-- ---- the whole walk

there : (hand n x : ℕ) → hand < n → cond (nat_lt hand n) x 0 ≡ x
there hand n x l = let a : nat_lt hand n ≡ true = lt-ltb hand n l in rw a refl

beyond : (hand n x : ℕ) → n ≤ hand → cond (nat_lt hand n) x 0 ≡ 0
beyond hand n x l = let a : nat_lt hand n ≡ false = le-ltb hand n l in rw a refl

-- a number is what all choices add
whole : (spot : Ranges) (tally : RangeTally) (column : Column) (number : List Weighted → ℕ) → number_in tally column ≡ all_added spot spot.ranges [] column → ((choice : List Weighted) → added_by spot column choice ≡ weight_of choice * number choice)
    → number_in tally column ≡ over_choices number spot.ranges
whole spot tally column number e same =
    e ∙ walked_same spot.ranges [] (added_by spot column) (λ choice. weight_of choice * number choice) same ∙ sym (choices_walked spot.ranges (λ choice. weight_of choice * number choice))

times_one : (n : ℕ) → n ≡ n * 1
times_one n = omega arith

-- what is walked over all ranges from nothing
pub all_walked : (spot : Ranges) (old tally : RangeTally) (taken : List Weighted) → taken ≡ [] → ((column : Column) → number_in old column ≡ 0) → GrowsBy old tally (λ column. all_added spot spot.ranges taken column) → IsAllOf spot tally
all_walked spot old tally taken none zeros grows column =
    let grown = grows column in
    let zero = zeros column in
    let same : all_added spot spot.ranges taken column ≡ all_added spot spot.ranges [] column = ap (λ t. all_added spot spot.ranges t column) none in
    omega (arith, grown, zero, same)

-- where the tally has no choice, there is none
pub no_choice : (spot : Ranges) (tally : RangeTally) → IsAllOf spot tally → length (choices spot.ranges) ≡ tally.choices
no_choice spot tally numbers = length_walked spot.ranges ∙ sym (numbers Choices)

-- what all choices add is the tally
pub tally_of : (spot : Ranges) (tally : RangeTally) → IsAllOf spot tally → (runouts : ℕ) → runouts ≡ runouts_of_choice spot → length spot.ranges ≤ 4 → length tally.cells ≡ 4
    → IsTallyOf spot (record tally { runouts = runouts })
tally_of spot tally from runouts each few four =
    record {
      count = from Choices ∙ sym (length_walked spot.ranges);
      each = each;
      total = whole spot tally Weight (λ choice. 1) (from Weight) (λ choice. times_one (weight_of choice));
      ends = λ hand d l. rw (default_cell hand d (omega arith)) (record {
        wins = whole spot tally (Wins hand) (λ choice. (full_cell spot.board spot.dead hand choice).win) (from (Wins hand)) (λ choice. there hand (length spot.ranges) _ l);
        ties = whole spot tally (Ties hand) (λ choice. (full_cell spot.board spot.dead hand choice).tie) (from (Ties hand)) (λ choice. there hand (length spot.ranges) _ l);
        losses = whole spot tally (Losses hand) (λ choice. (full_cell spot.board spot.dead hand choice).lose) (from (Losses hand)) (λ choice. there hand (length spot.ranges) _ l);
      });
      given = λ hand l. whole spot tally (Units hand) (full_units spot.board spot.dead hand) (from (Units hand)) (λ choice. there hand (length spot.ranges) _ l);
    }
  where
    default_cell : (hand : ℕ) (d : RangeCell) → hand < 4 → slice_index_or tally.cells hand d ≡ cell_in tally hand
    default_cell hand d l = index_default tally.cells hand d none (omega arith)

-- a player that there isn't has nothing
pub none_beyond : (spot : Ranges) (tally : RangeTally) → IsAllOf spot tally → AreNoneBeyond (length spot.ranges) tally
none_beyond spot tally numbers hand l =
    let zero : (column : Column) → ((choice : List Weighted) → added_by spot column choice ≡ 0) → number_in tally column ≡ 0 = λ column same.
    numbers column ∙ walked_same spot.ranges [] (added_by spot column) (λ choice. 0) same ∙ walked_none spot.ranges [] in
    let a : (cell_in tally hand).win ≡ 0 = zero (Wins hand) (λ choice. beyond hand (length spot.ranges) _ l) in
    let b : (cell_in tally hand).tie ≡ 0 = zero (Ties hand) (λ choice. beyond hand (length spot.ranges) _ l) in
    let c : (cell_in tally hand).lose ≡ 0 = zero (Losses hand) (λ choice. beyond hand (length spot.ranges) _ l) in
    let d : slice_index tally.units hand ≡ 0 = zero (Units hand) (λ choice. beyond hand (length spot.ranges) _ l) in
    ((λ k. record { win = a k; tie = b k; lose = c k }), d)
