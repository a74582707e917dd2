-- Counts of the sets that win: what they are worth with some more, and the tally that they make.
use Rattle.std.proofs.Common.{◌≡◌, ℕ, zero, suc, ◌+◌, ◌*◌, ◌/◌, ◌%◌, ◌<◌, ◌≤◌, ◌^◌, true, false, cond, ◌==◌, ◌&&◌, List, [], ◌∷◌, take, length, set, get_or, get_or-set_same, get_or-set_other, refl, sym, ap, ◌∙◌, arith, inl, inr}
use Rattle.std.specs.Prelude.{Option, nat_lt, slice_index, slice_index_or}
use Rattle.std.specs.Int.{bit_at}
use Rattle.std.proofs.lemmas.Bool.{cases_eq, cases_order}
use Rattle.std.proofs.lemmas.Nat.{mul-le, one_shl}
use Rattle.std.proofs.Math.Nat.{pow-le-pow_right}
use Rattle.card_sets.specs.PlayerSets.{hands_below, set_of_players}
use Rattle.card_sets.specs.PlayerSetLaws.{players_where-small}
use Rattle.showdown_tally.specs.SetShares.{set_cell}
use Rattle.showdown_tally.specs.Settling.{is_top, number_of, tops_below}
use Rattle.showdown_tally.specs.Showdown.{part_of}
use Rattle.showdown_tally.proofs.CallerLemmas.{tops_set}
use Rattle.hand_ranges.specs.declared.ends.Ends.{Ends}
use Rattle.range_lines.specs.declared.tally.RangeCell.{RangeCell}
use Rattle.range_lines.specs.declared.tally.RangeTally.{RangeTally}
use Rattle.hand_ranges.specs.Boards.{ends_number_below, worth, worth_from}
use Rattle.range_lines.specs.Walks.{Column, Choices, Weight, Wins, Ties, Losses, Units, none, number_in}

-- ---- what counts are worth

pub worth_more : (xs : List ℕ) (s i more : ℕ) (f : ℕ → ℕ) → i < length xs → worth_from s (set xs i (get_or xs i 0 + more)) f ≡ worth_from s xs f + more * f (s + i)
worth_more [] s i more f l = absurd (omega arith)
worth_more (x ∷ xs) s zero more f l =
    let at : s + 0 ≡ s = omega arith in
    let here : more * f (s + 0) ≡ more * f s = ap (λ k. more * f k) at in
    let split : (x + more) * f s ≡ x * f s + more * f s = omega arith in
    omega (arith, here, split)
worth_more (x ∷ xs) s (suc i) more f l =
    let rest = worth_more xs (s + 1) i more f (omega arith) in
    let at : s + 1 + i ≡ s + suc i = omega arith in
    let here : more * f (s + 1 + i) ≡ more * f (s + suc i) = ap (λ k. more * f k) at in
    omega (arith, rest, here)

pub worth_take : (xs : List ℕ) (s i : ℕ) (f : ℕ → ℕ) → i < length xs → worth_from s (take (i + 1) xs) f ≡ worth_from s (take i xs) f + get_or xs i 0 * f (s + i)
worth_take [] s i f l = absurd (omega arith)
worth_take (x ∷ xs) s zero f l =
    let at : s + 0 ≡ s = omega arith in
    let here : x * f (s + 0) ≡ x * f s = ap (λ k. x * f k) at in
    omega (arith, here)
worth_take (x ∷ xs) s (suc i) f l =
    let up : suc i + 1 ≡ suc (i + 1) = omega arith in
    let all : worth_from s (take (suc i + 1) (x ∷ xs)) f ≡ x * f s + worth_from (s + 1) (take (i + 1) xs) f = ap (λ k. worth_from s (take k (x ∷ xs)) f) up in
    let rest = worth_take xs (s + 1) i f (omega arith) in
    let at : s + 1 + i ≡ s + suc i = omega arith in
    let here : get_or xs i 0 * f (s + 1 + i) ≡ get_or xs i 0 * f (s + suc i) = ap (λ k. get_or xs i 0 * f k) at in
    omega (arith, all, rest, here)

pub entry_most : (xs : List ℕ) (s i : ℕ) → i < length xs → get_or xs i 0 ≤ worth_from s xs (λ set. 1)
entry_most [] s i l = absurd (omega arith)
entry_most (x ∷ xs) s zero l = omega arith
entry_most (x ∷ xs) s (suc i) l = omega (arith, entry_most xs (s + 1) i (omega arith))

pub part_most : (xs : List ℕ) (s i : ℕ) → worth_from s (take i xs) (λ set. 1) ≤ worth_from s xs (λ set. 1)
part_most [] s zero = omega arith
part_most [] s (suc i) = omega arith
part_most (x ∷ xs) s zero = omega arith
part_most (x ∷ xs) s (suc i) = omega (arith, part_most xs (s + 1) i)

pub small_step : (worth part x n : ℕ) → worth ≤ 5040 * part → n ≤ 5040 → worth + x * n ≤ 5040 * (part + x * 1)
small_step worth part x n h l = let product : x * n ≤ x * 5040 = mul-le x n x 5040 (omega arith) l in omega (arith, h, product)

pub entry_small : (x share : ℕ) → x ≤ 2 ^ 112 → share ≤ 5040 → x * share ≤ 5040 * 2 ^ 112
entry_small x share h l = let product : x * share ≤ 2 ^ 112 * 5040 = mul-le x share (2 ^ 112) 5040 h l in omega (arith, product)

pub worth_none : (xs : List ℕ) (s : ℕ) → worth_from s xs (λ set. 0) ≡ 0
worth_none [] s = refl
worth_none (x ∷ xs) s = omega (arith, worth_none xs (s + 1))

-- ---- one comparison more

pub set_small : (set n : ℕ) → n < 4 → set < 2 ^ n → set < 8
set_small set n l small = let power : 2 ^ n ≤ 2 ^ 3 = pow-le-pow_right (let some : 0 < 2 = omega arith in some) (let k : n ≤ 3 = omega arith in k) in omega (arith, power, small)

pub bit_of : (n : ℕ) → n < 4 → 1 * 2 ^ n % 65536 ≡ 2 ^ n
bit_of n l = one_shl n 16 (omega arith)

pub bit_small : (n : ℕ) → n < 4 → 2 ^ n ≤ 8
bit_small n l = let power : 2 ^ n ≤ 2 ^ 3 = pow-le-pow_right (let some : 0 < 2 = omega arith in some) (let k : n ≤ 3 = omega arith in k) in omega (arith, power)

pub tops_small : (values : List (Option ℕ)) (top : Option ℕ) (mask n : ℕ) → set_of_players (tops_below values top mask n) < 2 ^ n
tops_small values top mask n = let small = players_where-small (λ hand. (bit_at mask hand == 1) && is_top (number_of values hand) top) n in let same = tops_set values top mask n in omega (arith, small, same)

pub times_small : (weight x hands : ℕ) → weight ≤ 2 ^ 24 → x ≤ 255 * hands → hands ≤ 2 ^ 32 → weight * x ≤ 2 ^ 64
times_small weight x hands w l few = let product : weight * x ≤ 2 ^ 24 * (255 * 2 ^ 32) = mul-le weight x (2 ^ 24) (255 * 2 ^ 32) w (omega arith) in omega (arith, product)

pub times_light : (weight x y z hands : ℕ) → weight ≤ 2 ^ 24 → x + (y + z) ≤ 255 * hands → weight * x * 1 + weight * y * 1 + weight * z * 1 ≤ hands * 2 ^ 32
times_light weight x y z hands w l =
    let product : weight * (x + (y + z)) ≤ 2 ^ 24 * (255 * hands) = mul-le weight (x + (y + z)) (2 ^ 24) (255 * hands) w l in
    let split : weight * (x + (y + z)) ≡ weight * x + weight * y + weight * z = omega arith in
    omega (arith, product, split)

-- ---- the tally that counts make

place_next : (i n x new old : ℕ) → old ≡ cond (nat_lt i n) x 0 → (i ≡ n → new ≡ x) → cond (i == n) new old ≡ cond (nat_lt i (n + 1)) x 0
place_next i n x new old e same = elim (cases_order i n) [
  | inl s ↦
      let a : (i == n) ≡ true = grind arith in
      let b : nat_lt i (n + 1) ≡ true = grind arith in
      rw (a, b) (same s)
  | inr o ↦ elim o [
    | inl l ↦
        let a : (i == n) ≡ false = grind arith in
        let b : nat_lt i (n + 1) ≡ true = grind arith in
        let c : nat_lt i n ≡ true = grind arith in
        rw (a, b) (e ∙ (rw c refl))
    | inr g ↦
        let a : (i == n) ≡ false = grind arith in
        let b : nat_lt i (n + 1) ≡ false = grind arith in
        let c : nat_lt i n ≡ false = grind arith in
        rw (a, b) (e ∙ (rw c refl))
  ]
]

cell_at_place : (cells : List RangeCell) (i j : ℕ) (new : RangeCell) (part : RangeCell → ℕ) → j < length cells → part (slice_index_or (set cells j new) i none) ≡ cond (i == j) (part new) (part (slice_index_or cells i none))
cell_at_place cells i j new part l = elim (cases_eq i j) [
  | inl s ↦ let t : (i == j) ≡ true = grind arith in rw (t, s, get_or-set_same cells j new none l) refl
  | inr ne ↦ let t : (i == j) ≡ false = grind arith in rw (t, get_or-set_other cells j i new none ne) refl
]

units_at_place : (units : List ℕ) (i j new : ℕ) → j < length units → slice_index (set units j new) i ≡ cond (i == j) new (slice_index units i)
units_at_place units i j new l = elim (cases_eq i j) [
  | inl s ↦ let t : (i == j) ≡ true = grind arith in rw (t, s, get_or-set_same units j new 0 l) refl
  | inr ne ↦ let t : (i == j) ≡ false = grind arith in rw (t, get_or-set_other units j i new 0 ne) refl
]

pub tally_more : (ends : Ends) (total : RangeTally) (players n runouts : ℕ) (cell : RangeCell) (units : ℕ) → n < length total.cells → n < length total.units
    → ((column : Column) → number_in total column ≡ ends_number_below ends players n runouts column)
    → cell.win ≡ worth ends (λ set. (set_cell players n set).win) 0 → cell.tie ≡ worth ends (λ set. (set_cell players n set).tie) 0 → cell.lose ≡ worth ends (λ set. (set_cell players n set).lose) 0
    → units ≡ worth ends (λ set. part_of 5040 (hands_below set players) n) 0
    → (column : Column) → number_in (record total { cells = set total.cells n cell; units = set total.units n units }) column ≡ ends_number_below ends players (n + 1) runouts column
tally_more ends total players n runouts cell units l m before win tie lose given Choices = before Choices
tally_more ends total players n runouts cell units l m before win tie lose given Weight = before Weight
tally_more ends total players n runouts cell units l m before win tie lose given (Wins i) =
    cell_at_place total.cells i n cell (λ c. c.win) l ∙ place_next i n (worth ends (λ set. (set_cell players i set).win) 0) cell.win _ (before (Wins i)) (λ e. win ∙ ap (λ h. worth ends (λ set. (set_cell players h set).win) 0) (sym e))
tally_more ends total players n runouts cell units l m before win tie lose given (Ties i) =
    cell_at_place total.cells i n cell (λ c. c.tie) l ∙ place_next i n (worth ends (λ set. (set_cell players i set).tie) 0) cell.tie _ (before (Ties i)) (λ e. tie ∙ ap (λ h. worth ends (λ set. (set_cell players h set).tie) 0) (sym e))
tally_more ends total players n runouts cell units l m before win tie lose given (Losses i) =
    cell_at_place total.cells i n cell (λ c. c.lose) l ∙ place_next i n (worth ends (λ set. (set_cell players i set).lose) 0) cell.lose _ (before (Losses i)) (λ e. lose ∙ ap (λ h. worth ends (λ set. (set_cell players h set).lose) 0) (sym e))
tally_more ends total players n runouts cell units l m before win tie lose given (Units i) =
    units_at_place total.units i n units m ∙ place_next i n (worth ends (λ set. part_of 5040 (hands_below set players) i) 0) units _ (before (Units i)) (λ e. given ∙ ap (λ h. worth ends (λ set. part_of 5040 (hands_below set players) h) 0) (sym e))

none_first : (i x : ℕ) → 0 ≡ cond (nat_lt i 0) x 0
none_first i x = let a : nat_lt i 0 ≡ false = grind arith in rw a refl

pub tally_begins : (ends : Ends) (total : RangeTally) (players runouts choices weight : ℕ) → ((column : Column) → number_in total column ≡ 0) → choices ≡ ends.choices / runouts → weight ≡ worth ends (λ set. 1) 0 / runouts
    → (column : Column) → number_in (record total { choices = choices; weight = weight }) column ≡ ends_number_below ends players 0 runouts column
tally_begins ends total players runouts choices weight zeros a b Choices = a
tally_begins ends total players runouts choices weight zeros a b Weight = b
tally_begins ends total players runouts choices weight zeros a b (Wins i) = zeros (Wins i) ∙ none_first i _
tally_begins ends total players runouts choices weight zeros a b (Ties i) = zeros (Ties i) ∙ none_first i _
tally_begins ends total players runouts choices weight zeros a b (Losses i) = zeros (Losses i) ∙ none_first i _
tally_begins ends total players runouts choices weight zeros a b (Units i) = zeros (Units i) ∙ none_first i _
