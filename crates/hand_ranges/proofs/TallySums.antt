-- The numbers of a tally of ranges, with the count of a choice more.
use Rattle.std.proofs.Common.{◌≡◌, ℕ, ◌+◌, ◌*◌, ◌<◌, ◌≤◌, ◌^◌, List, length, set, get_or-set_same, get_or-set_other, refl, sym, ap, ◌∙◌, arith, inl, inr, Bool, true, false, cond, ◌==◌}
use Rattle.std.specs.Prelude.{nat_lt, slice_index, slice_index_or}
use Rattle.std.proofs.lemmas.Bool.{cases_lt, cases_eq, cases_order}
use Rattle.std.proofs.lemmas.Nat.{mul-le}
use Rattle.showdown_tally.specs.declared.cells.Cell.{Cell}
use Rattle.runout_ranges.specs.declared.limits.TheConstants.{RUNOUT_MAX}
use Rattle.range_lines.specs.declared.spot.Weighted.{Weighted}
use Rattle.range_lines.specs.declared.tally.RangeCell.{RangeCell}
use Rattle.range_lines.specs.declared.tally.RangeTally.{RangeTally}
use Rattle.range_lines.specs.Choices.{weight_of, full_cell, full_units}
use Rattle.range_lines.specs.RangeSpot.{Ranges}
use Rattle.range_lines.specs.Walks.{Column, Choices, Weight, Wins, Ties, Losses, Units, none, added_by, hand_adds, hands_add, count_adds, GrowsBy, IsWithin, HasRoom}

-- ---- one hand more

next_hand : (hand n x y : ℕ) → (hand ≡ n → y ≡ x) → cond (nat_lt hand n) x 0 + cond (hand == n) y 0 ≡ cond (nat_lt hand (n + 1)) x 0
next_hand hand n x y same = elim (cases_order hand n) [
  | inl e ↦
      let a : nat_lt hand n ≡ false = grind arith in
      let b : (hand == n) ≡ true = grind arith in
      let c : nat_lt hand (n + 1) ≡ true = grind arith in
      rw (a, b, c) (omega (arith, same e))
  | inr o ↦ elim o [
    | inl l ↦
        let a : nat_lt hand n ≡ true = grind arith in
        let b : (hand == n) ≡ false = grind arith in
        let c : nat_lt hand (n + 1) ≡ true = grind arith in
        rw (a, b, c) (omega arith)
    | inr g ↦
        let a : nat_lt hand n ≡ false = grind arith in
        let b : (hand == n) ≡ false = grind arith in
        let c : nat_lt hand (n + 1) ≡ false = grind arith in
        rw (a, b, c) (omega arith)
  ]
]

pub hands_next : (n weight : ℕ) (cells : ℕ → Cell) (units : ℕ → ℕ) (cell : Cell) (given : ℕ) → cell ≡ cells n → given ≡ units n
    → (column : Column) → hands_add n weight cells units column + hand_adds n weight cell given column ≡ hands_add (n + 1) weight cells units column
hands_next n weight cells units cell given e f Choices = refl
hands_next n weight cells units cell given e f Weight = refl
hands_next n weight cells units cell given e f (Wins hand) = next_hand hand n (weight * (cells hand).win) (weight * cell.win) (λ s. ap (λ c. weight * c.win) e ∙ ap (λ h. weight * (cells h).win) (sym s))
hands_next n weight cells units cell given e f (Ties hand) = next_hand hand n (weight * (cells hand).tie) (weight * cell.tie) (λ s. ap (λ c. weight * c.tie) e ∙ ap (λ h. weight * (cells h).tie) (sym s))
hands_next n weight cells units cell given e f (Losses hand) = next_hand hand n (weight * (cells hand).lose) (weight * cell.lose) (λ s. ap (λ c. weight * c.lose) e ∙ ap (λ h. weight * (cells h).lose) (sym s))
hands_next n weight cells units cell given e f (Units hand) = next_hand hand n (weight * units hand) (weight * given) (λ s. ap (λ u. weight * u) f ∙ ap (λ h. weight * units h) (sym s))

pub grows_more : (old mid new : RangeTally) (f g h : Column → ℕ) → GrowsBy old mid f → GrowsBy mid new g → ((column : Column) → f column + g column ≡ h column) → GrowsBy old new h
grows_more old mid new f g h a b same column = let x = a column in let y = b column in let z = same column in omega (arith, x, y, z)

-- no hand adds more than 2 ^ 96
product_small : (weight n : ℕ) → weight ≤ 2 ^ 32 → n < 2 ^ 64 → weight * n ≤ 2 ^ 96
product_small weight n w l = let m : weight * n ≤ 2 ^ 32 * 2 ^ 64 = mul-le weight n (2 ^ 32) (2 ^ 64) w (omega arith) in omega arith

one_hand : (b : Bool) (x : ℕ) → x ≤ 2 ^ 96 → cond b x 0 ≤ 2 ^ 96
one_hand true x h = h
one_hand false x h = omega arith

-- each number of a cell fits 64 bits
pub record Narrow (cell : Cell) (units : ℕ) : Type 0 where
  pub win : cell.win < 2 ^ 64
  pub tie : cell.tie < 2 ^ 64
  pub lose : cell.lose < 2 ^ 64
  pub given : units < 2 ^ 64

next_small : (hand n x y : ℕ) → cond (nat_lt hand n) x 0 ≤ 2 ^ 96 → (hand ≡ n → y ≡ x) → y ≤ 2 ^ 96 → cond (nat_lt hand (n + 1)) x 0 ≤ 2 ^ 96
next_small hand n x y before same small = elim (cases_order hand n) [
  | inl e ↦ let c : nat_lt hand (n + 1) ≡ true = grind arith in rw c (let s = same e in omega arith)
  | inr o ↦ elim o [
    | inl l ↦ let a : nat_lt hand n ≡ true = grind arith in let c : nat_lt hand (n + 1) ≡ true = grind arith in let b : x ≤ 2 ^ 96 = rw a at before in rw c b
    | inr g ↦ let c : nat_lt hand (n + 1) ≡ false = grind arith in rw c (omega arith)
  ]
]

pub small_next : (n weight : ℕ) (cells : ℕ → Cell) (units : ℕ → ℕ) (cell : Cell) (given : ℕ) → weight ≤ 2 ^ 32 → Narrow cell given → cell ≡ cells n → given ≡ units n
    → ((column : Column) → hands_add n weight cells units column ≤ 2 ^ 96) → (column : Column) → hands_add (n + 1) weight cells units column ≤ 2 ^ 96
small_next n weight cells units cell given w narrow e f before Choices = omega arith
small_next n weight cells units cell given w narrow e f before Weight = omega arith
small_next n weight cells units cell given w narrow e f before (Wins hand) =
    next_small hand n (weight * (cells hand).win) (weight * cell.win) (before (Wins hand)) (λ s. ap (λ c. weight * c.win) e ∙ ap (λ h. weight * (cells h).win) (sym s)) (product_small weight cell.win w narrow.win)
small_next n weight cells units cell given w narrow e f before (Ties hand) =
    next_small hand n (weight * (cells hand).tie) (weight * cell.tie) (before (Ties hand)) (λ s. ap (λ c. weight * c.tie) e ∙ ap (λ h. weight * (cells h).tie) (sym s)) (product_small weight cell.tie w narrow.tie)
small_next n weight cells units cell given w narrow e f before (Losses hand) =
    next_small hand n (weight * (cells hand).lose) (weight * cell.lose) (before (Losses hand)) (λ s. ap (λ c. weight * c.lose) e ∙ ap (λ h. weight * (cells h).lose) (sym s)) (product_small weight cell.lose w narrow.lose)
small_next n weight cells units cell given w narrow e f before (Units hand) =
    next_small hand n (weight * units hand) (weight * given) (before (Units hand)) (λ s. ap (λ u. weight * u) f ∙ ap (λ h. weight * units h) (sym s)) (product_small weight given w narrow.given)

no_hand_yet : (hand x : ℕ) → cond (nat_lt hand 0) x 0 ≡ 0
no_hand_yet hand x = let a : nat_lt hand 0 ≡ false = grind arith in rw a refl

pub hands_none : (weight : ℕ) (cells : ℕ → Cell) (units : ℕ → ℕ) (column : Column) → hands_add 0 weight cells units column ≡ 0
hands_none weight cells units Choices = refl
hands_none weight cells units Weight = refl
hands_none weight cells units (Wins hand) = no_hand_yet hand (weight * (cells hand).win)
hands_none weight cells units (Ties hand) = no_hand_yet hand (weight * (cells hand).tie)
hands_none weight cells units (Losses hand) = no_hand_yet hand (weight * (cells hand).lose)
hands_none weight cells units (Units hand) = no_hand_yet hand (weight * units hand)

-- a hand whose turn it is has its old numbers
not_itself : (n x : ℕ) → cond (nat_lt n n) x 0 ≡ 0
not_itself n x = let a : nat_lt n n ≡ false = grind arith in rw a refl

room_from : (n few : ℕ) → n ≤ few * 2 ^ 96 → few < RUNOUT_MAX → n ≤ 2 ^ 124
room_from n few h l = omega arith

pub room_at : (old now : RangeTally) (n weight : ℕ) (cells : ℕ → Cell) (units : ℕ → ℕ) → GrowsBy old now (hands_add n weight cells units) → IsWithin old → old.choices < RUNOUT_MAX → HasRoom now n
room_at old now n weight cells units grows within few = record {
  wins = room_from _ old.choices (let a = grows (Wins n) in let b = within (Wins n) in let c = not_itself n (weight * (cells n).win) in omega (arith, a, b, c)) few;
  ties = room_from _ old.choices (let a = grows (Ties n) in let b = within (Ties n) in let c = not_itself n (weight * (cells n).tie) in omega (arith, a, b, c)) few;
  losses = room_from _ old.choices (let a = grows (Losses n) in let b = within (Losses n) in let c = not_itself n (weight * (cells n).lose) in omega (arith, a, b, c)) few;
  units = room_from _ old.choices (let a = grows (Units n) in let b = within (Units n) in let c = not_itself n (weight * units n) in omega (arith, a, b, c)) few;
}

-- ---- the numbers of one hand, written

written_cell : (cells : List RangeCell) (i j : ℕ) (new : RangeCell) (part : RangeCell → ℕ) (more : ℕ) → j < length cells → part new ≡ part (slice_index_or cells j none) + more
    → part (slice_index_or (set cells j new) i none) ≡ part (slice_index_or cells i none) + cond (i == j) more 0
written_cell cells i j new part more l e = elim (cases_eq i j) [
  | inl s ↦
      let t : (i == j) ≡ true = grind arith in
      rw (t, s, get_or-set_same cells j new none l) e
  | inr ne ↦
      let t : (i == j) ≡ false = grind arith in
      rw (t, get_or-set_other cells j i new none ne) (omega arith)
]

written_units : (units : List ℕ) (i j new more : ℕ) → j < length units → new ≡ slice_index units j + more → slice_index (set units j new) i ≡ slice_index units i + cond (i == j) more 0
written_units units i j new more l e = elim (cases_eq i j) [
  | inl s ↦
      let t : (i == j) ≡ true = grind arith in
      rw (t, s, get_or-set_same units j new 0 l) e
  | inr ne ↦
      let t : (i == j) ≡ false = grind arith in
      rw (t, get_or-set_other units j i new 0 ne) (omega arith)
]

pub hand_written : (old : RangeTally) (hand weight : ℕ) (cell : Cell) (units : ℕ) (new : RangeCell) (given : ℕ) → hand < length old.cells → hand < length old.units
    → (let was = slice_index_or old.cells hand none in new ≡ record { win = was.win + weight * cell.win; tie = was.tie + weight * cell.tie; lose = was.lose + weight * cell.lose })
    → given ≡ slice_index old.units hand + weight * units
    → GrowsBy old (record old { cells = set old.cells hand new; units = set old.units hand given }) (hand_adds hand weight cell units)
hand_written old hand weight cell units new given l m e f Choices = omega arith
hand_written old hand weight cell units new given l m e f Weight = omega arith
hand_written old hand weight cell units new given l m e f (Wins i) = written_cell old.cells i hand new (λ c. c.win) (weight * cell.win) l (ap (λ c. c.win) e)
hand_written old hand weight cell units new given l m e f (Ties i) = written_cell old.cells i hand new (λ c. c.tie) (weight * cell.tie) l (ap (λ c. c.tie) e)
hand_written old hand weight cell units new given l m e f (Losses i) = written_cell old.cells i hand new (λ c. c.lose) (weight * cell.lose) l (ap (λ c. c.lose) e)
hand_written old hand weight cell units new given l m e f (Units i) = written_units old.units i hand given (weight * units) m f

-- ---- a whole choice

pub choice_grows : (old mid : RangeTally) (n weight : ℕ) (cells : ℕ → Cell) (units : ℕ → ℕ) → GrowsBy old mid (hands_add n weight cells units) → GrowsBy old (record mid { choices = mid.choices + 1; weight = mid.weight + weight }) (count_adds n weight cells units)
choice_grows old mid n weight cells units grows Choices = let a = grows Choices in omega (arith, a)
choice_grows old mid n weight cells units grows Weight = let a = grows Weight in omega (arith, a)
choice_grows old mid n weight cells units grows (Wins hand) = grows (Wins hand)
choice_grows old mid n weight cells units grows (Ties hand) = grows (Ties hand)
choice_grows old mid n weight cells units grows (Losses hand) = grows (Losses hand)
choice_grows old mid n weight cells units grows (Units hand) = grows (Units hand)

adds_small : (n weight : ℕ) (cells : ℕ → Cell) (units : ℕ → ℕ) → weight ≤ 2 ^ 32 → ((column : Column) → hands_add n weight cells units column ≤ 2 ^ 96) → (column : Column) → count_adds n weight cells units column ≤ 2 ^ 96
adds_small n weight cells units w small Choices = omega arith
adds_small n weight cells units w small Weight = omega arith
adds_small n weight cells units w small (Wins hand) = small (Wins hand)
adds_small n weight cells units w small (Ties hand) = small (Ties hand)
adds_small n weight cells units w small (Losses hand) = small (Losses hand)
adds_small n weight cells units w small (Units hand) = small (Units hand)

pub choice_within : (old new : RangeTally) (n weight : ℕ) (cells : ℕ → Cell) (units : ℕ → ℕ) → weight ≤ 2 ^ 32 → IsWithin old → GrowsBy old new (count_adds n weight cells units) → ((column : Column) → hands_add n weight cells units column ≤ 2 ^ 96) → IsWithin new
choice_within old new n weight cells units w within grows small column =
    let one : new.choices ≡ old.choices + 1 = grows Choices in
    let a = grows column in
    let b = within column in
    let c = adds_small n weight cells units w small column in
    omega (arith, one, a, b, c)

-- the count of a choice adds what the choice is to add
few_hands : (hand n m x y : ℕ) → n ≡ m → (hand < n → x ≡ y) → cond (nat_lt hand n) x 0 ≡ cond (nat_lt hand m) y 0
few_hands hand n m x y e same = rw (← e) (elim (cases_lt hand n) [
  | inl l ↦ let a : nat_lt hand n ≡ true = grind arith in rw a (same l)
  | inr g ↦ let a : nat_lt hand n ≡ false = grind arith in rw a refl
])

pub count_of_choice : (spot : Ranges) (choice : List Weighted) (n weight : ℕ) (cells : ℕ → Cell) (units : ℕ → ℕ) → n ≡ length spot.ranges → weight ≡ weight_of choice
    → ((hand : ℕ) → hand < n → cells hand ≡ full_cell spot.board spot.dead hand choice) → ((hand : ℕ) → hand < n → units hand ≡ full_units spot.board spot.dead hand choice)
    → (column : Column) → count_adds n weight cells units column ≡ added_by spot column choice
count_of_choice spot choice n weight cells units e w same given Choices = refl
count_of_choice spot choice n weight cells units e w same given Weight = w
count_of_choice spot choice n weight cells units e w same given (Wins hand) = few_hands hand n (length spot.ranges) _ _ e (λ l. ap (λ k. k * (cells hand).win) w ∙ ap (λ c. weight_of choice * c.win) (same hand l))
count_of_choice spot choice n weight cells units e w same given (Ties hand) = few_hands hand n (length spot.ranges) _ _ e (λ l. ap (λ k. k * (cells hand).tie) w ∙ ap (λ c. weight_of choice * c.tie) (same hand l))
count_of_choice spot choice n weight cells units e w same given (Losses hand) = few_hands hand n (length spot.ranges) _ _ e (λ l. ap (λ k. k * (cells hand).lose) w ∙ ap (λ c. weight_of choice * c.lose) (same hand l))
count_of_choice spot choice n weight cells units e w same given (Units hand) = few_hands hand n (length spot.ranges) _ _ e (λ l. ap (λ k. k * units hand) w ∙ ap (λ u. weight_of choice * u) (given hand l))
