-- Counts that are cleared, and one runout more among the counts of each pot.
use Rattle.std.proofs.Common.{◌≡◌, ◌≢◌, ℕ, ◌+◌, ◌*◌, ◌<◌, ◌≤◌, ◌==◌, ◌&&◌, Bool, true, false, cond, List, [], ◌∷◌, length, set, refl, sym, ap, ◌∙◌, arith, inl, inr, get_or-set_same, get_or-set_other, zero-add}
use Rattle.std.specs.Prelude.{nat_lt, slice_index, slice_index_or, take}
use Rattle.std.proofs.lemmas.List.{length-map, length-take}
use Rattle.std.proofs.lemmas.Bool.{cases_eq, cases_lt}
use Rattle.card_sets.specs.Games.{has_side}
use Rattle.card_sets.specs.declared.games.Game.{Game}
use Rattle.card_sets.specs.declared.games.Side.{Side}
use Rattle.card_sets.specs.declared.games.Side.TheVariants.{High, Low}
use Rattle.showdown_tally.specs.Cells.{is_side, side_place}
use Rattle.card_sets.specs.PlayerSets.{hands_of}
use Rattle.showdown_tally.specs.Deals.{deal_of}
use Rattle.showdown_tally.specs.Showdown.{Showdown}
use Rattle.showdown_tally.specs.SideCounts.{CountsGrow, count_at, count_place, low_mark}
use Rattle.showdown_tally.specs.Sides.{side_outcome}
use Rattle.showdown_tally.specs.declared.table.Table.{Table}
use Rattle.runout_walk.specs.OneMore.{AddsAt, AddsOne, ClearsAt, ClearsTo, set_place}

-- a row that is written, and the other side's rows
own_row : (counts : List (List ℕ)) (row : List ℕ) (pot k p at : ℕ) → 2 * pot + k < length counts
    → slice_index (slice_index_or (set counts (2 * pot + k) row) (2 * p + k) []) at ≡ cond (p == pot) (slice_index row at) (slice_index (slice_index_or counts (2 * p + k) []) at)
own_row counts row pot k p at inside = elim (cases_eq p pot) [
  | inl e ↦
      let t : (p == pot) ≡ true = grind arith in
      rw t (ap (λ n. slice_index (slice_index_or (set counts (2 * pot + k) row) (2 * n + k) []) at) e ∙ ap (λ r. slice_index r at) (get_or-set_same counts (2 * pot + k) row [] inside))
  | inr ne ↦
      let f : (p == pot) ≡ false = grind arith in
      let other : 2 * p + k ≢ 2 * pot + k = omega arith in
      rw f (ap (λ r. slice_index r at) (get_or-set_other counts (2 * pot + k) (2 * p + k) row [] other))
]

written : (s side : Side) (counts : List (List ℕ)) (row : List ℕ) (pot p at : ℕ) → 2 * pot + side_place side < length counts → count_at (set counts (2 * pot + side_place side) row) p s at ≡ cond (is_side s side && (p == pot)) (slice_index row at) (count_at counts p s at)
written High High counts row pot p at inside = own_row counts row pot 0 p at inside
written Low Low counts row pot p at inside = own_row counts row pot 1 p at inside
written High Low counts row pot p at inside = let other : 2 * p + 0 ≢ 2 * pot + 1 = omega arith in ap (λ r. slice_index r at) (get_or-set_other counts (2 * pot + 1) (2 * p + 0) row [] other)
written Low High counts row pot p at inside = let other : 2 * p + 1 ≢ 2 * pot + 0 = omega arith in ap (λ r. slice_index r at) (get_or-set_other counts (2 * pot + 0) (2 * p + 1) row [] other)

pub add_zero : (n : ℕ) → n + 0 ≡ n
add_zero n = omega arith

same_added : (has : Bool) (p pot place at row_at : ℕ) (old : ℕ → ℕ) → has ≡ true → row_at ≡ old pot + cond (place == at) 1 0 → cond (p == pot) row_at (old p) ≡ old p + cond (has && (p == pot) && (place == at)) 1 0
same_added has p pot place at row_at old h e = elim (cases_eq p pot) [
  | inl s ↦ let t : (p == pot) ≡ true = grind arith in rw (h, t) (e ∙ ap (λ n. old n + cond (place == at) 1 0) (sym s))
  | inr ne ↦ let f : (p == pot) ≡ false = grind arith in rw (h, f) (sym (add_zero (old p)))
]

-- one more at a place of a row
pub added : (game : Game) (side : Side) (pot place : ℕ) (counts : List (List ℕ)) (row : List ℕ) → 2 * pot + side_place side < length counts → has_side side game ≡ true
    → ((at : ℕ) → slice_index row at ≡ slice_index (slice_index_or counts (2 * pot + side_place side) []) at + cond (place == at) 1 0) → AddsAt game side pot place counts (set counts (2 * pot + side_place side) row)
added game side pot place counts row inside has each = λ p at s. written s side counts row pot p at inside ∙ go s side p at has each
  where
    go : (s side : Side) (p at : ℕ) → has_side side game ≡ true → ((at : ℕ) → slice_index row at ≡ slice_index (slice_index_or counts (2 * pot + side_place side) []) at + cond (place == at) 1 0)
        → cond (is_side s side && (p == pot)) (slice_index row at) (count_at counts p s at) ≡ count_at counts p s at + cond (is_side s side && has_side s game && (p == pot) && (place == at)) 1 0
    go High High p at has each = same_added (has_side High game) p pot place at (slice_index row at) (λ n. count_at counts n High at) has (each at)
    go Low Low p at has each = same_added (has_side Low game) p pot place at (slice_index row at) (λ n. count_at counts n Low at) has (each at)
    go High Low p at has each = sym (add_zero (count_at counts p High at))
    go Low High p at has each = sym (add_zero (count_at counts p Low at))

-- one more on both sides
pub both_added : (game : Game) (pot high low : ℕ) (a b c : List (List ℕ)) → AddsAt game High pot (high + low_mark low) a b → AddsAt game Low pot low b c → AddsOne game pot high low a c
both_added game pot high low a b c one two = λ p at s. go s p at
  where
    go : (s : Side) (p at : ℕ) → count_at c p s at ≡ count_at a p s at + cond (has_side s game && (p == pot) && (set_place s high low == at)) 1 0
    go High p at = two p at High ∙ add_zero (count_at b p High at) ∙ one p at High
    go Low p at = two p at Low ∙ ap (λ n. n + cond (has_side Low game && (p == pot) && (low == at)) 1 0) (one p at Low ∙ add_zero (count_at a p Low at))

same_cleared : (has : Bool) (p pot row_at old : ℕ) → has ≡ true → row_at ≡ 0 → cond (p == pot) row_at old ≡ cond (has && (p == pot)) 0 old
same_cleared has p pot row_at old h e = rw h (ap (λ r. cond (p == pot) r old) e)

-- a row that is cleared
pub cleared : (game : Game) (side : Side) (pot : ℕ) (counts : List (List ℕ)) (row : List ℕ) → 2 * pot + side_place side < length counts → has_side side game ≡ true
    → ((at : ℕ) → slice_index row at ≡ 0) → ClearsAt game side pot counts (set counts (2 * pot + side_place side) row)
cleared game side pot counts row inside has zero = λ p at s. written s side counts row pot p at inside ∙ go s side p at has
  where
    go : (s side : Side) (p at : ℕ) → has_side side game ≡ true → cond (is_side s side && (p == pot)) (slice_index row at) (count_at counts p s at) ≡ cond (is_side s side && has_side s game && (p == pot)) 0 (count_at counts p s at)
    go High High p at has = same_cleared (has_side High game) p pot (slice_index row at) (count_at counts p High at) has (zero at)
    go Low Low p at has = same_cleared (has_side Low game) p pot (slice_index row at) (count_at counts p Low at) has (zero at)
    go High Low p at has = refl
    go Low High p at has = refl

one_pot_more : (has : Bool) (p pot old : ℕ) → cond (has && (p == pot)) 0 (cond (has && nat_lt p pot) 0 old) ≡ cond (has && nat_lt p (pot + 1)) 0 old
one_pot_more false p pot old = refl
one_pot_more true p pot old = elim (cases_eq p pot) [
  | inl e ↦ let t : (p == pot) ≡ true = grind arith in let u : nat_lt p (pot + 1) ≡ true = grind arith in rw (t, u) refl
  | inr ne ↦ let f : (p == pot) ≡ false = grind arith in let u : nat_lt p (pot + 1) ≡ nat_lt p pot = grind arith in rw (f, u) refl
]

-- one pot more that is cleared
pub more_cleared : (game : Game) (pot : ℕ) (first a b c : List (List ℕ)) → ClearsTo game pot first a → ClearsAt game High pot a b → ClearsAt game Low pot b c → ClearsTo game (pot + 1) first c
more_cleared game pot first a b c far one two = λ p at s. go s p at
  where
    go : (s : Side) (p at : ℕ) → count_at c p s at ≡ cond (has_side s game && nat_lt p (pot + 1)) 0 (count_at first p s at)
    go High p at = two p at High ∙ one p at High ∙ ap (cond (has_side High game && (p == pot)) 0) (far p at High) ∙ one_pot_more (has_side High game) p pot (count_at first p High at)
    go Low p at = two p at Low ∙ ap (cond (has_side Low game && (p == pot)) 0) (one p at Low ∙ far p at Low) ∙ one_pot_more (has_side Low game) p pot (count_at first p Low at)

-- the place of a runout by the sets that win
pub place_is : (s : Side) (deal : Showdown) (pot : ℕ) (runout : List (List ℕ)) → set_place s (side_outcome High deal pot runout) (side_outcome Low deal pot runout) ≡ count_place deal pot s runout
place_is High deal pot runout = refl
place_is Low deal pot runout = refl

-- on each side of the pots below one there is one more at a place
pub record IsAdded (game : Game) (places : ℕ → Side → ℕ) (pot : ℕ) (old new : List (List ℕ)) : Type 0 where
  pub done : (p at : ℕ) (s : Side) → has_side s game ≡ true → p < pot → count_at new p s at ≡ count_at old p s at + cond (places p s == at) 1 0
  pub later : (p at : ℕ) (s : Side) → has_side s game ≡ true → pot ≤ p → count_at new p s at ≡ count_at old p s at

pub one_added : (game : Game) (places : ℕ → Side → ℕ) (pot high low : ℕ) (first old new : List (List ℕ)) → ((s : Side) → set_place s high low ≡ places pot s)
    → IsAdded game places pot first old → AddsOne game pot high low old new → IsAdded game places (pot + 1) first new
one_added game places pot high low first old new there far one = record {
  done = λ p at s has less. elim (cases_lt p pot) [
    | inl lt ↦ let f : (p == pot) ≡ false = grind arith in one p at s ∙ rw (has, f) (add_zero (count_at old p s at)) ∙ far.done p at s has lt
    | inr ge ↦
        let here : p ≡ pot = omega arith in
        let t : (p == pot) ≡ true = grind arith in
        let place : set_place s high low ≡ places p s = there s ∙ ap (λ n. places n s) (sym here) in
        one p at s ∙ rw (has, t, place) (ap (λ n. n + cond (places p s == at) 1 0) (far.later p at s has ge))
  ];
  later = λ p at s has less. let f : (p == pot) ≡ false = grind arith in one p at s ∙ rw (has, f) (add_zero (count_at old p s at)) ∙ far.later p at s has (omega arith);
}

-- one runout is counted for the pots below one
pub record IsCounted (deal : Showdown) (runout : List (List ℕ)) (pot : ℕ) (old new : List (List ℕ)) : Type 0 where
  pub done : (p at : ℕ) (s : Side) → has_side s deal.state.game ≡ true → p < pot → count_at new p s at ≡ count_at old p s at + cond (count_place deal p s runout == at) 1 0
  pub later : (p at : ℕ) (s : Side) → has_side s deal.state.game ≡ true → pot ≤ p → count_at new p s at ≡ count_at old p s at

pub one_counted : (deal : Showdown) (runout : List (List ℕ)) (pot high low : ℕ) (first old new : List (List ℕ)) → high ≡ side_outcome High deal pot runout → low ≡ side_outcome Low deal pot runout
    → IsCounted deal runout pot first old → AddsOne deal.state.game pot high low old new → IsCounted deal runout (pot + 1) first new
one_counted deal runout pot high low first old new h l far one =
    let there : (s : Side) → set_place s high low ≡ count_place deal pot s runout = (λ s. ap (λ x. set_place s x low) h ∙ ap (λ x. set_place s (side_outcome High deal pot runout) x) l ∙ place_is s deal pot runout) in
    let more = one_added deal.state.game (λ p s. count_place deal p s runout) pot high low first old new there (record { done = far.done; later = far.later }) one in
    record { done = more.done; later = more.later }

-- and for all of them
pub all_counted : (deal : Showdown) (runout : List (List ℕ)) (old new : List (List ℕ)) → IsCounted deal runout (length deal.pots) old new → CountsGrow deal (runout ∷ []) old new
all_counted deal runout old new far = λ pot place side l has m.
    far.done pot place side has l ∙ ap (λ n. count_at old pot side place + n) (sym (zero-add (cond (count_place deal pot side runout == place) 1 0)))

-- a set of up to ten hands stands at one of the 2048 places of a side
marked : (b : Bool) (high : ℕ) → high < 1024 → high + cond b 0 1024 < 2048
marked true high h = omega arith
marked false high h = omega arith

pub set_place-small : (s : Side) (high low : ℕ) → high < 1024 → low < 1024 → set_place s high low < 2048
set_place-small High high low h l = marked (low == 0) high h
set_place-small Low high low h l = omega arith

-- how many pots a table's deal has
pub length-pots : (t : Table) → length t.eligible ≡ 10 → length (deal_of t).pots ≡ t.pots
length-pots t ten =
    let few = t.few_pots in
    length-map (take t.pots t.eligible) hands_of ∙ omega (arith, length-take t.pots t.eligible, ten, few)
