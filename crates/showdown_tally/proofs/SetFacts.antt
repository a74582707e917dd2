-- What a set of hands that wins is to a hand.
use Rattle.std.proofs.Common.{◌≡◌, ℕ, zero, suc, ◌+◌, ◌/◌, ◌<◌, ◌≤◌, ◌==◌, true, false, cond, refl, ◌∙◌, inl, inr, arith, List, [], ◌∷◌, length, length-append}
use Rattle.std.specs.Prelude.{nat_lt}
use Rattle.std.proofs.lemmas.Bool.{cases_eq, cases_lt}
use Rattle.card_sets.specs.declared.games.Side.{Side}
use Rattle.showdown_tally.specs.Cells.{cell_of, cell_plus, no_runout}
use Rattle.showdown_tally.specs.SetShares.{set_cell}
use Rattle.showdown_tally.specs.Showdown.{is_among, part_of}
use Rattle.card_sets.specs.PlayerSets.{hands_below}
use Rattle.showdown_tally.specs.declared.cells.Cell.{Cell}
use Rattle.showdown_tally.specs.declared.cells.Outcome.TheVariants.{Win, Tie, Lose}
use Rattle.showdown_tally.proofs.PotFacts.{among_hands}
use Rattle.showdown_tally.proofs.MaskWinners.{plus_none, none_plus}
use Rattle.showdown_tally.proofs.Winners.{is_set}

pub among_set : (set count hand : ℕ) → hand < count → is_among hand (hands_below set count) ≡ is_set set hand
among_set set count hand l = among_hands set count hand ∙ (let t : nat_lt hand count ≡ true = grind arith in rw t refl)

pub set_loses : (set count hand : ℕ) → hand < count → is_set set hand ≡ false → cell_of Lose ≡ set_cell count hand set
set_loses set count hand l f = let out : is_among hand (hands_below set count) ≡ false = among_set set count hand l ∙ f in rw out refl

pub set_wins : (set count hand : ℕ) → hand < count → is_set set hand ≡ true → length (hands_below set count) ≡ 1 → cell_of Win ≡ set_cell count hand set
set_wins set count hand l t one = let among : is_among hand (hands_below set count) ≡ true = among_set set count hand l ∙ t in rw (among, one) refl

pub set_ties : (set count hand : ℕ) → hand < count → is_set set hand ≡ true → (length (hands_below set count) ≡ 1 → ⊥) → cell_of Tie ≡ set_cell count hand set
set_ties set count hand l t more =
    let among : is_among hand (hands_below set count) ≡ true = among_set set count hand l ∙ t in
    let f : (length (hands_below set count) == 1) ≡ false = grind arith in
    rw (among, f) refl

pub set_gives : (whole set count hand : ℕ) → hand < count → is_set set hand ≡ true → whole / length (hands_below set count) ≡ part_of whole (hands_below set count) hand
set_gives whole set count hand l t = let among : is_among hand (hands_below set count) ≡ true = among_set set count hand l ∙ t in rw among refl

pub set_gives_none : (whole set count hand : ℕ) → hand < count → is_set set hand ≡ false → 0 ≡ part_of whole (hands_below set count) hand
set_gives_none whole set count hand l f = let out : is_among hand (hands_below set count) ≡ false = among_set set count hand l ∙ f in rw out refl

-- one pot more, where each pot has cells of its own and none elsewhere
pub one_pot_more : (own : ℕ → ℕ → ℕ → Side → Cell) (n p h : ℕ) (s : Side) → ((p == n) ≡ false → own n p h s ≡ no_runout)
    → cell_plus (cond (nat_lt p n) (own p p h s) no_runout) (own n p h s) ≡ cond (nat_lt p (n + 1)) (own p p h s) no_runout
one_pot_more own n p h s elsewhere = elim (cases_lt p n) [
  | inl l ↦
      let t : nat_lt p n ≡ true = grind arith in
      let t' : nat_lt p (n + 1) ≡ true = grind arith in
      let f : (p == n) ≡ false = grind arith in
      rw (t, t', elsewhere f) (plus_none _)
  | inr ge ↦ elim (cases_eq p n) [
    | inl e ↦
        let f : nat_lt n n ≡ false = grind arith in
        let t' : nat_lt n (n + 1) ≡ true = grind arith in
        rw e (rw (f, t') (none_plus _))
    | inr ne ↦
        let f : nat_lt p n ≡ false = grind arith in
        let f' : nat_lt p (n + 1) ≡ false = grind arith in
        let g : (p == n) ≡ false = grind arith in
        rw (f, f', elsewhere g) refl
  ]
]

-- and units
pub one_pot_more_units : (own : ℕ → ℕ → ℕ → ℕ) (n p h : ℕ) → ((p == n) ≡ false → own n p h ≡ 0) → cond (nat_lt p n) (own p p h) 0 + own n p h ≡ cond (nat_lt p (n + 1)) (own p p h) 0
one_pot_more_units own n p h elsewhere = elim (cases_lt p n) [
  | inl l ↦
      let t : nat_lt p n ≡ true = grind arith in
      let t' : nat_lt p (n + 1) ≡ true = grind arith in
      let f : (p == n) ≡ false = grind arith in
      rw (t, t', elsewhere f) (omega arith)
  | inr ge ↦ elim (cases_eq p n) [
    | inl e ↦
        let f : nat_lt n n ≡ false = grind arith in
        let t' : nat_lt n (n + 1) ≡ true = grind arith in
        rw e (rw (f, t') (omega arith))
    | inr ne ↦
        let f : nat_lt p n ≡ false = grind arith in
        let f' : nat_lt p (n + 1) ≡ false = grind arith in
        let g : (p == n) ≡ false = grind arith in
        rw (f, f', elsewhere g) refl
  ]
]

-- below n there are at most n hands
pub length_few : (set n : ℕ) → length (hands_below set n) ≤ n
length_few set zero = omega arith
length_few set (suc n) =
    let ih : length (hands_below set n) ≤ n = length_few set n in
    rw (length-append (hands_below set n) (cond (is_set set n) (n ∷ []) [])) (elim (is_set set n) as (λ b. length (hands_below set n) + length (cond b (n ∷ []) []) ≤ suc n) [ true ↦ omega arith | false ↦ omega arith ])
