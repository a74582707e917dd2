-- Going through the counts of a side, set by set, and through the hands that each set is counted for.
use Rattle.std.proofs.Common.{◌≡◌, ℕ, zero, suc, ◌+◌, ◌*◌, ◌/◌, ◌<◌, ◌≤◌, ◌==◌, ◌&&◌, Bool, true, false, cond, refl, sym, ap, ◌∙◌, inl, inr, arith, List, length, subst, add-zero}
use Rattle.std.specs.Prelude.{nat_lt, slice_index}
use Rattle.std.proofs.Math.Nat.{div-le_self}
use Rattle.std.proofs.lemmas.Bool.{cases_eq, cases_lt}
use Rattle.card_sets.specs.Games.{has_side}
use Rattle.card_sets.specs.PlayerSets.{hands_below}
use Rattle.card_sets.specs.declared.games.Game.{Game}
use Rattle.card_sets.specs.declared.games.Side.{Side}
use Rattle.card_sets.specs.declared.games.Side.TheVariants.{High, Low}
use Rattle.showdown_tally.specs.Cells.{CellFits, Grows, Sums, cell_at, cell_of, cell_plus, is_side, no_runout, only_at, units_at, units_only_at}
use Rattle.showdown_tally.specs.CountShares.{CellWithin, cell_of_places, given_cells, given_units, places_cells, places_units, pot_given, pot_given_units, pots_given, pots_given_units, times_cells, times_units, units_of_places, units_of_set}
use Rattle.showdown_tally.specs.SetShares.{cell_times, set_cell}
use Rattle.showdown_tally.specs.Settling.{cell_by, whole_of}
use Rattle.showdown_tally.specs.Showdown.{is_among, part_of}
use Rattle.showdown_tally.specs.declared.cells.Cell.{Cell}
use Rattle.showdown_tally.specs.declared.cells.Outcome.{Outcome}
use Rattle.showdown_tally.specs.declared.cells.Outcome.TheVariants.{Win, Tie, Lose}
use Rattle.showdown_tally.proofs.GrownSums.{Grows-join, Grows-same, plus_assoc}
use Rattle.showdown_tally.proofs.SetFacts.{one_pot_more, one_pot_more_units}
use Rattle.showdown_tally.proofs.MaskWinners.{and-false, none_plus, plus_none}
use Rattle.showdown_tally.proofs.Winners.{is_set}

-- a set that never wins gives nothing
none_of : (c : Cell) → cell_times 0 c ≡ no_runout
none_of c = let x : c.win * 0 ≡ 0 = omega arith in let y : c.tie * 0 ≡ 0 = omega arith in let z : c.lose * 0 ≡ 0 = omega arith in rw (x, y, z) refl

pub never_cells : (pot : ℕ) (side : Side) (mask count set times n p h : ℕ) (s : Side) → times ≡ 0 → times_cells pot side mask count set times n p h s ≡ no_runout
never_cells pot side mask count set times n p h s e = rw e (one ((p == pot) && is_side s side && nat_lt h n && is_set mask h))
  where
    one : (b : Bool) → cond b (cell_times 0 (set_cell count h set)) no_runout ≡ no_runout
    one true = none_of (set_cell count h set)
    one false = refl

pub never_units : (pot mask count : ℕ) (halved : Bool) (set times n p h : ℕ) → times ≡ 0 → times_units pot mask count halved set times n p h ≡ 0
never_units pot mask count halved set times n p h e = rw e (one ((p == pot) && nat_lt h n && is_set mask h))
  where
    one : (b : Bool) → cond b (units_of_set halved count h set * 0) 0 ≡ 0
    one true = omega arith
    one false = refl

-- nothing stands yet at the hand that comes next
pub times_next : (pot : ℕ) (side : Side) (mask count set times n p : ℕ) (s : Side) → times_cells pot side mask count set times n p n s ≡ no_runout
times_next pot side mask count set times n p s =
    let f : nat_lt n n ≡ false = grind arith in
    rw (f, and-false ((p == pot) && is_side s side)) refl

pub times_units_next : (pot mask count : ℕ) (halved : Bool) (set times n p : ℕ) → times_units pot mask count halved set times n p n ≡ 0
times_units_next pot mask count halved set times n p =
    let f : nat_lt n n ≡ false = grind arith in
    rw (f, and-false (p == pot)) refl

-- one number fits beside a bounded cell
pub times_fit : (o : Outcome) (times : ℕ) (old : Cell) → times < 4294967296 → CellWithin old 1152921504606846976 → CellFits (cell_plus old (cell_times times (cell_of o)))
times_fit Win times old small within = (omega (arith, within.0), omega (arith, within.1), omega (arith, within.2))
times_fit Tie times old small within = (omega (arith, within.0), omega (arith, within.1), omega (arith, within.2))
times_fit Lose times old small within = (omega (arith, within.0), omega (arith, within.1), omega (arith, within.2))

pub units_times : (given times : ℕ) → given ≤ 5040 → times ≤ 4294967296 → given * times ≤ 21646635171840
units_times given times few small = grind arith

-- one hand more, which plays for the side
middle : (a b : Bool) (e : Cell) → cell_plus (cond ((a && b && false) && true) e no_runout) (cond (a && true && b) e no_runout) ≡ cond (a && b && true && true) e no_runout
middle true true e = none_plus e
middle true false e = refl
middle false true e = refl
middle false false e = refl

hand_more : (pot : ℕ) (side : Side) (mask : ℕ) (own : ℕ → Cell) (n : ℕ) → is_set mask n ≡ true → (p i : ℕ) (s : Side)
    → cell_plus (cond ((p == pot) && is_side s side && nat_lt i n && is_set mask i) (own i) no_runout) (only_at pot n side (own n) p i s) ≡ cond ((p == pot) && is_side s side && nat_lt i (n + 1) && is_set mask i) (own i) no_runout
hand_more pot side mask own n bit p i s = elim (cases_lt i n) [
  | inl l ↦
      let t : nat_lt i n ≡ true = grind arith in
      let t' : nat_lt i (n + 1) ≡ true = grind arith in
      let f : (i == n) ≡ false = grind arith in
      rw (t, t', f, and-false (p == pot)) (plus_none _)
  | inr ge ↦ elim (cases_eq i n) [
    | inl e ↦
        let f : nat_lt n n ≡ false = grind arith in
        let t' : nat_lt n (n + 1) ≡ true = grind arith in
        let t : (n == n) ≡ true = grind arith in
        rw (e, f, t', t, bit) (middle (p == pot) (is_side s side) (own n))
    | inr ne ↦
        let f : nat_lt i n ≡ false = grind arith in
        let f' : nat_lt i (n + 1) ≡ false = grind arith in
        let g : (i == n) ≡ false = grind arith in
        rw (f, f', g, and-false (p == pot), and-false ((p == pot) && is_side s side)) refl
  ]
]

hand_skipped : (pot : ℕ) (side : Side) (mask : ℕ) (own : ℕ → Cell) (n : ℕ) → is_set mask n ≡ false → (p i : ℕ) (s : Side)
    → cond ((p == pot) && is_side s side && nat_lt i n && is_set mask i) (own i) no_runout ≡ cond ((p == pot) && is_side s side && nat_lt i (n + 1) && is_set mask i) (own i) no_runout
hand_skipped pot side mask own n bit p i s = elim (cases_lt i n) [
  | inl l ↦
      let t : nat_lt i n ≡ true = grind arith in
      let t' : nat_lt i (n + 1) ≡ true = grind arith in
      rw (t, t') refl
  | inr ge ↦ elim (cases_eq i n) [
    | inl e ↦
        let f : nat_lt n n ≡ false = grind arith in
        rw (e, f, bit, and-false ((p == pot) && is_side s side), and-false ((p == pot) && is_side s side && nat_lt n (n + 1))) refl
    | inr ne ↦
        let f : nat_lt i n ≡ false = grind arith in
        let f' : nat_lt i (n + 1) ≡ false = grind arith in
        rw (f, f') refl
  ]
]

middle_units : (a : Bool) (u : ℕ) → cond ((a && false) && true) u 0 + cond (a && true) u 0 ≡ cond (a && true && true) u 0
middle_units true u = omega arith
middle_units false u = refl

hand_units_more : (pot mask : ℕ) (own : ℕ → ℕ) (n : ℕ) → is_set mask n ≡ true → (p i : ℕ)
    → cond ((p == pot) && nat_lt i n && is_set mask i) (own i) 0 + units_only_at pot n (own n) p i ≡ cond ((p == pot) && nat_lt i (n + 1) && is_set mask i) (own i) 0
hand_units_more pot mask own n bit p i = elim (cases_lt i n) [
  | inl l ↦
      let t : nat_lt i n ≡ true = grind arith in
      let t' : nat_lt i (n + 1) ≡ true = grind arith in
      let f : (i == n) ≡ false = grind arith in
      rw (t, t', f, and-false (p == pot)) (add-zero _)
  | inr ge ↦ elim (cases_eq i n) [
    | inl e ↦
        let f : nat_lt n n ≡ false = grind arith in
        let t' : nat_lt n (n + 1) ≡ true = grind arith in
        let t : (n == n) ≡ true = grind arith in
        rw (e, f, t', t, bit) (middle_units (p == pot) (own n))
    | inr ne ↦
        let f : nat_lt i n ≡ false = grind arith in
        let f' : nat_lt i (n + 1) ≡ false = grind arith in
        let g : (i == n) ≡ false = grind arith in
        rw (f, f', g, and-false (p == pot)) refl
  ]
]

hand_units_skipped : (pot mask : ℕ) (own : ℕ → ℕ) (n : ℕ) → is_set mask n ≡ false → (p i : ℕ)
    → cond ((p == pot) && nat_lt i n && is_set mask i) (own i) 0 ≡ cond ((p == pot) && nat_lt i (n + 1) && is_set mask i) (own i) 0
hand_units_skipped pot mask own n bit p i = elim (cases_lt i n) [
  | inl l ↦
      let t : nat_lt i n ≡ true = grind arith in
      let t' : nat_lt i (n + 1) ≡ true = grind arith in
      rw (t, t') refl
  | inr ge ↦ elim (cases_eq i n) [
    | inl e ↦
        let f : nat_lt n n ≡ false = grind arith in
        rw (e, f, bit, and-false (p == pot), and-false ((p == pot) && nat_lt n (n + 1))) refl
    | inr ne ↦
        let f : nat_lt i n ≡ false = grind arith in
        let f' : nat_lt i (n + 1) ≡ false = grind arith in
        rw (f, f') refl
  ]
]

pub hand_grown : (old a b now : Sums) (pot : ℕ) (side : Side) (mask count : ℕ) (halved : Bool) (set times n : ℕ) (cell : Cell) (given : ℕ) → is_set mask n ≡ true
    → cell ≡ cell_times times (set_cell count n set) → given ≡ units_of_set halved count n set * times
    → Grows old a (times_cells pot side mask count set times n) (times_units pot mask count halved set times n)
    → Grows a b (only_at pot n side cell) (λ p h. 0) → Grows b now (λ p h s. no_runout) (units_only_at pot n given)
    → Grows old now (times_cells pot side mask count set times (n + 1)) (times_units pot mask count halved set times (n + 1))
hand_grown old a b now pot side mask count halved set times n cell given bit cell_is given_is before one two = record {
  runouts = two.runouts ∙ one.runouts ∙ before.runouts;
  cells = λ p i s l m. two.cells p i s l m ∙ plus_none _ ∙ one.cells p i s l m ∙ ap (λ x. cell_plus x (only_at pot n side cell p i s)) (before.cells p i s l m)
      ∙ plus_assoc (cell_at old p i s) (times_cells pot side mask count set times n p i s) (only_at pot n side cell p i s)
      ∙ ap (λ x. cell_plus (cell_at old p i s) x) (ap (λ x. cell_plus (times_cells pot side mask count set times n p i s) (only_at pot n side x p i s)) cell_is ∙ hand_more pot side mask (λ h. cell_times times (set_cell count h set)) n bit p i s);
  units = λ p i l m.
      let e : units_at now p i ≡ units_at b p i + units_only_at pot n given p i = two.units p i l m in
      let d : units_at b p i ≡ units_at a p i + 0 = one.units p i l m in
      let f : units_at a p i ≡ units_at old p i + times_units pot mask count halved set times n p i = before.units p i l m in
      let k : times_units pot mask count halved set times n p i + units_only_at pot n given p i ≡ times_units pot mask count halved set times (n + 1) p i =
      ap (λ u. times_units pot mask count halved set times n p i + units_only_at pot n u p i) given_is ∙ hand_units_more pot mask (λ h. units_of_set halved count h set * times) n bit p i in
      omega arith;
}

pub hand_passed : (old now : Sums) (pot : ℕ) (side : Side) (mask count : ℕ) (halved : Bool) (set times n : ℕ) → is_set mask n ≡ false
    → Grows old now (times_cells pot side mask count set times n) (times_units pot mask count halved set times n)
    → Grows old now (times_cells pot side mask count set times (n + 1)) (times_units pot mask count halved set times (n + 1))
hand_passed old now pot side mask count halved set times n bit before =
    Grows-same old now (times_cells pot side mask count set times n) _ (times_units pot mask count halved set times n) _ before
    (λ p i s l m. hand_skipped pot side mask (λ h. cell_times times (set_cell count h set)) n bit p i s)
    (λ p i l m. hand_units_skipped pot mask (λ h. units_of_set halved count h set * times) n bit p i)

-- a set gives a hand few runouts more
small_cell : (b : Bool) (n : ℕ) → CellWithin (cell_by b n) 1
small_cell true n = elim (n == 1) as (λ b. CellWithin (cond b (cell_of Win) (cell_of Tie)) 1) [ true ↦ (omega arith, omega arith, omega arith) | false ↦ (omega arith, omega arith, omega arith) ]
small_cell false n = (omega arith, omega arith, omega arith)

at_most : (x t : ℕ) → x ≤ 1 → x * t ≤ t
at_most zero t l = omega arith
at_most (suc zero) t l = omega arith
at_most (suc (suc x)) t l = absurd (omega arith)

pub times_within : (pot : ℕ) (side : Side) (mask count set times n p h : ℕ) (s : Side) (bound : ℕ) (old : Cell) → times < 4294967296 → CellWithin old bound
    → CellWithin (cell_plus old (times_cells pot side mask count set times n p h s)) (bound + 4294967296)
times_within pot side mask count set times n p h s bound old small within = one ((p == pot) && is_side s side && nat_lt h n && is_set mask h)
  where
    one : (b : Bool) → CellWithin (cell_plus old (cond b (cell_times times (set_cell count h set)) no_runout)) (bound + 4294967296)
    one true =
        let few : CellWithin (set_cell count h set) 1 = small_cell (is_among h (hands_below set count)) (length (hands_below set count)) in (
          omega (arith, within.0, at_most (set_cell count h set).win times few.0),
          omega (arith, within.1, at_most (set_cell count h set).tie times few.1),
          omega (arith, within.2, at_most (set_cell count h set).lose times few.2),
        )
    one false = (omega (arith, within.0), omega (arith, within.1), omega (arith, within.2))

pub within_wider : (cell : Cell) (a b : ℕ) → CellWithin cell a → a ≤ b → CellWithin cell b
within_wider cell a b within l = (omega (arith, within.0), omega (arith, within.1), omega (arith, within.2))

whole_small : (halved : Bool) → whole_of halved ≤ 5040
whole_small true = omega arith
whole_small false = omega arith

part_small : (whole hand : ℕ) (hands : List ℕ) → part_of whole hands hand ≤ whole
part_small whole hand hands = elim (is_among hand hands) as (λ b. cond b (whole / length hands) 0 ≤ whole) [ true ↦ div-le_self whole (length hands) | false ↦ omega arith ]

-- and few units
pub times_units_within : (pot mask count : ℕ) (halved : Bool) (set times n p h : ℕ) → times < 4294967296 → times_units pot mask count halved set times n p h ≤ 21646635171840
times_units_within pot mask count halved set times n p h small = one ((p == pot) && nat_lt h n && is_set mask h)
  where
    one : (b : Bool) → cond b (units_of_set halved count h set * times) 0 ≤ 21646635171840
    one true = units_times (units_of_set halved count h set) times (omega (arith, part_small (whole_of halved) h (hands_below set count), whole_small halved)) (omega arith)
    one false = omega arith

-- one set more
cell_more : (row : List ℕ) (count hand n : ℕ)
    → cell_plus (cell_plus (cell_of_places row count hand n) (cell_times (slice_index row n) (set_cell count hand n))) (cell_times (slice_index row (n + 1024)) (set_cell count hand n)) ≡ cell_of_places row count hand (n + 1)
cell_more row count hand n =
    let e : n + 1 ≡ suc n = omega arith in
    plus_assoc (cell_of_places row count hand n) (cell_times (slice_index row n) (set_cell count hand n)) (cell_times (slice_index row (n + 1024)) (set_cell count hand n)) ∙ rw e refl

three_cells : (b : Bool) (x y z w : Cell) → cell_plus (cell_plus x y) z ≡ w → cell_plus (cell_plus (cond b x no_runout) (cond b y no_runout)) (cond b z no_runout) ≡ cond b w no_runout
three_cells true x y z w e = e
three_cells false x y z w e = refl

pub places_more : (pot : ℕ) (side : Side) (mask count : ℕ) (row : List ℕ) (n p h : ℕ) (s : Side)
    → cell_plus (cell_plus (places_cells pot side mask count row n p h s) (times_cells pot side mask count n (slice_index row n) count p h s)) (times_cells pot side mask count n (slice_index row (n + 1024)) count p h s)
    ≡ places_cells pot side mask count row (n + 1) p h s
places_more pot side mask count row n p h s =
    three_cells ((p == pot) && is_side s side && nat_lt h count && is_set mask h) (cell_of_places row count h n) (cell_times (slice_index row n) (set_cell count h n)) (cell_times (slice_index row (n + 1024)) (set_cell count h n))
    (cell_of_places row count h (n + 1)) (cell_more row count h n)

units_more : (row : List ℕ) (halved : Bool) (count hand n : ℕ)
    → (units_of_places row halved count hand n + units_of_set halved count hand n * slice_index row n) + units_of_set true count hand n * slice_index row (n + 1024) ≡ units_of_places row halved count hand (n + 1)
units_more row halved count hand n =
    let e : n + 1 ≡ suc n = omega arith in
    let more : units_of_places row halved count hand (n + 1) ≡ units_of_places row halved count hand n + (units_of_set halved count hand n * slice_index row n + units_of_set true count hand n * slice_index row (n + 1024)) = rw e refl in
    omega (arith, more)

three_units : (b : Bool) (x y z w : ℕ) → (x + y) + z ≡ w → (cond b x 0 + cond b y 0) + cond b z 0 ≡ cond b w 0
three_units true x y z w e = e
three_units false x y z w e = refl

pub places_units_more : (pot mask count : ℕ) (halved : Bool) (row : List ℕ) (n p h : ℕ)
    → (places_units pot mask count halved row n p h + times_units pot mask count halved n (slice_index row n) count p h) + times_units pot mask count true n (slice_index row (n + 1024)) count p h
    ≡ places_units pot mask count halved row (n + 1) p h
places_units_more pot mask count halved row n p h =
    three_units ((p == pot) && nat_lt h count && is_set mask h) (units_of_places row halved count h n) (units_of_set halved count h n * slice_index row n) (units_of_set true count h n * slice_index row (n + 1024))
    (units_of_places row halved count h (n + 1)) (units_more row halved count h n)

-- the sets below 0 give nothing
pub places_none : (pot : ℕ) (side : Side) (mask count : ℕ) (sets : List ℕ) (p h : ℕ) (s : Side) → places_cells pot side mask count sets 0 p h s ≡ no_runout
places_none pot side mask count sets p h s = one ((p == pot) && is_side s side && nat_lt h count && is_set mask h)
  where
    one : (b : Bool) → cond b (cell_of_places sets count h 0) no_runout ≡ no_runout
    one true = refl
    one false = refl

pub places_units_none : (pot mask count : ℕ) (halved : Bool) (sets : List ℕ) (p h : ℕ) → places_units pot mask count halved sets 0 p h ≡ 0
places_units_none pot mask count halved sets p h = one ((p == pot) && nat_lt h count && is_set mask h)
  where
    one : (b : Bool) → cond b (units_of_places sets halved count h 0) 0 ≡ 0
    one true = refl
    one false = refl

-- one set more, with its two counts
pub set_grown : (old a b now : Sums) (pot : ℕ) (side : Side) (mask count : ℕ) (halved : Bool) (row : List ℕ) (n plain marked : ℕ) → plain ≡ slice_index row n → marked ≡ slice_index row (n + 1024)
    → Grows old a (places_cells pot side mask count row n) (places_units pot mask count halved row n)
    → Grows a b (times_cells pot side mask count n plain count) (times_units pot mask count halved n plain count)
    → Grows b now (times_cells pot side mask count n marked count) (times_units pot mask count true n marked count)
    → Grows old now (places_cells pot side mask count row (n + 1)) (places_units pot mask count halved row (n + 1))
set_grown old a b now pot side mask count halved row n plain marked first second before one two =
    let both : Grows old b (λ p i s. cell_plus (places_cells pot side mask count row n p i s) (times_cells pot side mask count n plain count p i s)) (λ p i. places_units pot mask count halved row n p i + times_units pot mask count halved n plain count p i) =
    Grows-join old a b (places_cells pot side mask count row n) (times_cells pot side mask count n plain count) _ (places_units pot mask count halved row n) (times_units pot mask count halved n plain count) _ before one (λ p i s l m. refl) (λ p i l m. refl) in
    Grows-join old b now _ (times_cells pot side mask count n marked count) _ _ (times_units pot mask count true n marked count) _ both two
    (λ p i s l m. rw (first, second) (places_more pot side mask count row n p i s))
    (λ p i l m. rw (first, second) (places_units_more pot mask count halved row n p i))

-- what stands after a set is counted is still few
pub set_within : (a b : Sums) (pot : ℕ) (side : Side) (mask count set times n h bound : ℕ) (u : ℕ → ℕ → ℕ) → Grows a b (times_cells pot side mask count set times n) u → pot < 10 → h < 10 → times < 4294967296
    → CellWithin (cell_at a pot h side) bound → CellWithin (cell_at b pot h side) (bound + 4294967296)
set_within a b pot side mask count set times n h bound u grows p l small within =
    let P : Cell → Type 0 = λ cell. CellWithin cell (bound + 4294967296) in
    subst P (sym (grows.cells pot h side p l)) (times_within pot side mask count set times n pot h side bound (cell_at a pot h side) small within)

pub set_units_within : (a b : Sums) (pot mask count : ℕ) (halved : Bool) (set times n h : ℕ) (f : ℕ → ℕ → Side → Cell) → Grows a b f (times_units pot mask count halved set times n) → pot < 10 → h < 10 → times < 4294967296
    → units_at b pot h ≤ units_at a pot h + 21646635171840
set_units_within a b pot mask count halved set times n h f grows p l small =
    let now : units_at b pot h ≡ units_at a pot h + times_units pot mask count halved set times n pot h = grows.units pot h p l in
    omega (arith, now, times_units_within pot mask count halved set times n pot h small)

-- one pot more
blank : (b : Bool) → cond b no_runout no_runout ≡ no_runout
blank true = refl
blank false = refl

blank_units : (b : Bool) → ◌≡◌ {A = ℕ} (cond b 0 0) 0
blank_units true = refl
blank_units false = refl

pub pots_more : (game : Game) (masks : List ℕ) (rows : List (List ℕ)) (count n p h : ℕ) (s : Side)
    → cell_plus (cell_plus (pots_given game masks rows count n p h s) (given_cells game masks rows count n High p h s)) (given_cells game masks rows count n Low p h s) ≡ pots_given game masks rows count (n + 1) p h s
pots_more game masks rows count n p h s =
    plus_assoc (pots_given game masks rows count n p h s) (given_cells game masks rows count n High p h s) (given_cells game masks rows count n Low p h s)
    ∙ one_pot_more (λ pot. pot_given game masks rows count pot) n p h s (λ e. rw e (rw (blank (has_side High game), blank (has_side Low game)) refl))

pub pots_units_more : (game : Game) (masks : List ℕ) (rows : List (List ℕ)) (count n p h : ℕ)
    → (pots_given_units game masks rows count n p h + given_units game masks rows count n High p h) + given_units game masks rows count n Low p h ≡ pots_given_units game masks rows count (n + 1) p h
pots_units_more game masks rows count n p h =
    let more : pots_given_units game masks rows count n p h + pot_given_units game masks rows count n p h ≡ pots_given_units game masks rows count (n + 1) p h =
    one_pot_more_units (λ pot. pot_given_units game masks rows count pot) n p h (λ e. rw e (rw (blank_units (has_side High game), blank_units (has_side Low game)) refl)) in
    omega (arith, more)

-- nothing stands yet in the pot that comes next
pub pots_next : (game : Game) (masks : List ℕ) (rows : List (List ℕ)) (count n h : ℕ) (s : Side) → pots_given game masks rows count n n h s ≡ no_runout
pots_next game masks rows count n h s = let f : nat_lt n n ≡ false = grind arith in rw f refl

pub pots_units_next : (game : Game) (masks : List ℕ) (rows : List (List ℕ)) (count n h : ℕ) → pots_given_units game masks rows count n n h ≡ 0
pots_units_next game masks rows count n h = let f : nat_lt n n ≡ false = grind arith in rw f refl
