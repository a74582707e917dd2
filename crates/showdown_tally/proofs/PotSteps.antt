-- One pot more, and all of them.
use Rattle.std.proofs.Common.{◌≡◌, ℕ, ◌+◌, ◌≤◌, ◌==◌, ◌&&◌, not, true, false, cond, refl, sym, ap, ◌∙◌, inl, inr, arith, Bool, List, [], ◌∷◌, add-zero, zero-add}
use Rattle.std.specs.Prelude.{nat_lt}
use Rattle.std.proofs.lemmas.Bool.{cases_eq, cases_lt}
use Rattle.card_sets.specs.Games.{has_side}
use Rattle.card_sets.specs.declared.games.Game.{Game}
use Rattle.card_sets.specs.declared.games.Side.{Side}
use Rattle.card_sets.specs.declared.games.Side.TheVariants.{High, Low}
use Rattle.showdown_tally.specs.Cells.{cell_plus, no_runout}
use Rattle.card_sets.specs.PlayerSets.{hands_below}
use Rattle.showdown_tally.specs.Settling.{ended, side_units, game_cells, game_units, cells_by_sides, shares_by_sides, whole_of, is_none}
use Rattle.showdown_tally.specs.Showdown.{Showdown, is_among, winners, eligible_in, units, units_by_sides, has_two_sides, part_of}
use Rattle.showdown_tally.specs.Tallies.{cell_over}
use Rattle.showdown_tally.specs.Pots.{pots_cells, pots_units}
use Rattle.showdown_tally.proofs.MaskWinners.{plus_none, none_plus}
use Rattle.showdown_tally.proofs.Winners.{is_set}
use Rattle.showdown_tally.proofs.BothSides.{units-both}
use Rattle.showdown_tally.proofs.PotFacts.{side_tops, pot_cell, no_side, beyond_cell, beyond_units}

-- a pot as the settling of one runout finds it: its hands are those of a mask, and these win its sides
pub record IsPot (deal : Showdown) (runout : List (List ℕ)) (pot mask count : ℕ) (highs lows : List ℕ) : Type 0 where
  pub hands : eligible_in deal pot ≡ hands_below mask count
  pub high : winners deal pot High runout ≡ highs
  pub low : winners deal pot Low runout ≡ lows
  pub no_high : (h : ℕ) → count ≤ h → is_among h highs ≡ false
  pub no_low : (h : ℕ) → count ≤ h → is_among h lows ≡ false

-- whether a side is one of those that a pot is played for
abbrev has_one : Bool → Bool → Side → Bool
has_one high low High = high
has_one high low Low = low

-- what the pot that is settled gets
pub game_here : (game : Game) (pot mask : ℕ) (highs lows : List ℕ) (n h : ℕ) (s : Side) → game_cells game pot mask highs lows n pot h s ≡ cond (has_one (has_side High game) (has_side Low game) s && (nat_lt h n && is_set mask h)) (ended (side_tops s highs lows) h) no_runout
game_here game pot mask highs lows n h s = one (has_side High game) (has_side Low game) s (let t : (pot == pot) ≡ true = grind arith in t)
  where
    one : (high low : Bool) (s : Side) → (pot == pot) ≡ true → cells_by_sides high low pot mask highs lows n pot h s ≡ cond (has_one high low s && (nat_lt h n && is_set mask h)) (ended (side_tops s highs lows) h) no_runout
    one true true High t = rw t (plus_none (cond (nat_lt h n && is_set mask h) (ended highs h) no_runout))
    one true true Low t = rw t (none_plus (cond (nat_lt h n && is_set mask h) (ended lows h) no_runout))
    one true false High t = rw t refl
    one true false Low t = rw t refl
    one false true High t = rw t refl
    one false true Low t = rw t refl
    one false false High t = refl
    one false false Low t = refl

-- and what the others get
game_elsewhere : (game : Game) (pot mask : ℕ) (highs lows : List ℕ) (n p h : ℕ) (s : Side) → (p == pot) ≡ false → game_cells game pot mask highs lows n p h s ≡ no_runout
game_elsewhere game pot mask highs lows n p h s f = one (has_side High game) (has_side Low game)
  where
    one : (high low : Bool) → cells_by_sides high low pot mask highs lows n p h s ≡ no_runout
    one true true = rw f refl
    one true false = rw f refl
    one false true = rw f refl
    one false false = refl

abbrev Beyond : List ℕ → ℕ → Type 0
Beyond tops n = (h : ℕ) → n ≤ h → is_among h tops ≡ false

part_within : (whole : ℕ) (tops : List ℕ) (n h : ℕ) → Beyond tops n → cond (nat_lt h n) (part_of whole tops h) 0 ≡ part_of whole tops h
part_within whole tops n h out = elim (cases_lt h n) [
  | inl l ↦ let t : nat_lt h n ≡ true = grind arith in rw t refl
  | inr ge ↦ let f : nat_lt h n ≡ false = grind arith in rw (f, out h ge) refl
]

part_here : (whole pot : ℕ) (tops : List ℕ) (n h : ℕ) → Beyond tops n → (pot == pot) ≡ true → side_units whole pot tops n pot h ≡ part_of whole tops h
part_here whole pot tops n h out t = rw t (part_within whole tops n h out)

alone_high : (highs lows : List ℕ) (h : ℕ) → lows ≡ [] → part_of 5040 highs h ≡ units_by_sides false highs lows h
alone_high highs lows h none = sym (add-zero (part_of 5040 highs h)) ∙ ap (λ l. part_of 5040 highs h + part_of 5040 l h) (sym none)

alone_low : (highs lows : List ℕ) (h : ℕ) → highs ≡ [] → part_of 5040 lows h ≡ units_by_sides false highs lows h
alone_low highs lows h none = sym (zero-add (part_of 5040 lows h)) ∙ ap (λ l. part_of 5040 l h + part_of 5040 lows h) (sym none)

pub units_here : (game : Game) (pot : ℕ) (highs lows : List ℕ) (n h : ℕ) → Beyond highs n → Beyond lows n → (has_side High game ≡ false → highs ≡ []) → (has_side Low game ≡ false → lows ≡ [])
    → game_units game pot highs lows n pot h ≡ units_by_sides (has_two_sides game) highs lows h
units_here game pot highs lows n h out_high out_low no_high no_low = one (has_side High game) (has_side Low game) (let t : (pot == pot) ≡ true = grind arith in t) no_high no_low
  where
    one : (high low : Bool) → (pot == pot) ≡ true → (high ≡ false → highs ≡ []) → (low ≡ false → lows ≡ []) → shares_by_sides high low pot highs lows n pot h ≡ units_by_sides (high && low) highs lows h
    one true true t x y = rw (part_here (whole_of (not (is_none lows))) pot highs n h out_high t, part_here 2520 pot lows n h out_low t) (sym (units-both highs lows h))
    one true false t x y = part_here 5040 pot highs n h out_high t ∙ alone_high highs lows h (y refl)
    one false true t x y = part_here 5040 pot lows n h out_low t ∙ alone_low highs lows h (x refl)
    one false false t x y = rw (x refl, y refl) refl

units_elsewhere : (game : Game) (pot : ℕ) (highs lows : List ℕ) (n p h : ℕ) → (p == pot) ≡ false → game_units game pot highs lows n p h ≡ 0
units_elsewhere game pot highs lows n p h f = one (has_side High game) (has_side Low game)
  where
    one : (high low : Bool) → shares_by_sides high low pot highs lows n p h ≡ 0
    one true true = rw f refl
    one true false = rw f refl
    one false true = rw f refl
    one false false = refl

-- what a runout gives a hand in its pot
pub cell_here : (deal : Showdown) (runout : List (List ℕ)) (pot mask count : ℕ) (highs lows : List ℕ) → IsPot deal runout pot mask count highs lows
    → (h : ℕ) (s : Side) → game_cells deal.state.game pot mask highs lows count pot h s ≡ cell_over deal (runout ∷ []) pot h s
cell_here deal runout pot mask count highs lows scene h s = game_here deal.state.game pot mask highs lows count h s ∙ sym (one s)
  where
    one : (s : Side) → cell_over deal (runout ∷ []) pot h s ≡ cond (has_one (has_side High deal.state.game) (has_side Low deal.state.game) s && (nat_lt h count && is_set mask h)) (ended (side_tops s highs lows) h) no_runout
    one High = pot_cell High deal pot h runout mask count highs scene.hands scene.high
    one Low = pot_cell Low deal pot h runout mask count lows scene.hands scene.low

pub given_here : (deal : Showdown) (runout : List (List ℕ)) (pot mask count : ℕ) (highs lows : List ℕ) → IsPot deal runout pot mask count highs lows
    → (h : ℕ) → game_units deal.state.game pot highs lows count pot h ≡ units deal pot h runout
given_here deal runout pot mask count highs lows scene h =
    units_here deal.state.game pot highs lows count h scene.no_high scene.no_low (λ f. sym scene.high ∙ no_side High deal pot runout f) (λ f. sym scene.low ∙ no_side Low deal pot runout f)
    ∙ rw (scene.high, scene.low) refl

-- one pot more
pub pots_step : (deal : Showdown) (runout : List (List ℕ)) (n mask count : ℕ) (highs lows : List ℕ) → IsPot deal runout n mask count highs lows
    → (p h : ℕ) (s : Side) → cell_plus (pots_cells deal runout n p h s) (game_cells deal.state.game n mask highs lows count p h s) ≡ pots_cells deal runout (n + 1) p h s
pots_step deal runout n mask count highs lows scene p h s = elim (cases_lt p n) [
  | inl l ↦
      let t : nat_lt p n ≡ true = grind arith in
      let t' : nat_lt p (n + 1) ≡ true = grind arith in
      let f : (p == n) ≡ false = grind arith in
      rw (t, t', game_elsewhere deal.state.game n mask highs lows count p h s f) (plus_none (cell_over deal (runout ∷ []) p h s))
  | inr ge ↦ elim (cases_eq p n) [
    | inl e ↦
        let f : nat_lt n n ≡ false = grind arith in
        let t' : nat_lt n (n + 1) ≡ true = grind arith in
        rw e (rw (f, t') (none_plus (game_cells deal.state.game n mask highs lows count n h s) ∙ cell_here deal runout n mask count highs lows scene h s))
    | inr ne ↦
        let f : nat_lt p n ≡ false = grind arith in
        let f' : nat_lt p (n + 1) ≡ false = grind arith in
        let g : (p == n) ≡ false = grind arith in
        rw (f, f', game_elsewhere deal.state.game n mask highs lows count p h s g) refl
  ]
]

pub pots_units_step : (deal : Showdown) (runout : List (List ℕ)) (n mask count : ℕ) (highs lows : List ℕ) → IsPot deal runout n mask count highs lows
    → (p h : ℕ) → pots_units deal runout n p h + game_units deal.state.game n highs lows count p h ≡ pots_units deal runout (n + 1) p h
pots_units_step deal runout n mask count highs lows scene p h = elim (cases_lt p n) [
  | inl l ↦
      let t : nat_lt p n ≡ true = grind arith in
      let t' : nat_lt p (n + 1) ≡ true = grind arith in
      let f : (p == n) ≡ false = grind arith in
      rw (t, t', units_elsewhere deal.state.game n highs lows count p h f) (add-zero (units deal p h runout))
  | inr ge ↦ elim (cases_eq p n) [
    | inl e ↦
        let f : nat_lt n n ≡ false = grind arith in
        let t' : nat_lt n (n + 1) ≡ true = grind arith in
        rw e (rw (f, t') (zero-add (game_units deal.state.game n highs lows count n h) ∙ given_here deal runout n mask count highs lows scene h))
    | inr ne ↦
        let f : nat_lt p n ≡ false = grind arith in
        let f' : nat_lt p (n + 1) ≡ false = grind arith in
        let g : (p == n) ≡ false = grind arith in
        rw (f, f', units_elsewhere deal.state.game n highs lows count p h g) refl
  ]
]

-- all pots: what the runout gives
pub pots_all : (deal : Showdown) (runout : List (List ℕ)) (pots : ℕ) → ((p : ℕ) → pots ≤ p → eligible_in deal p ≡ [])
    → (p h : ℕ) (s : Side) → pots_cells deal runout pots p h s ≡ cell_over deal (runout ∷ []) p h s
pots_all deal runout pots none p h s = elim (cases_lt p pots) [
  | inl l ↦ let t : nat_lt p pots ≡ true = grind arith in rw t refl
  | inr ge ↦ let f : nat_lt p pots ≡ false = grind arith in rw f (sym (beyond_cell deal p h s runout (none p ge)))
]

pub pots_units_all : (deal : Showdown) (runout : List (List ℕ)) (pots : ℕ) → ((p : ℕ) → pots ≤ p → eligible_in deal p ≡ [])
    → (p h : ℕ) → pots_units deal runout pots p h ≡ units deal p h runout
pots_units_all deal runout pots none p h = elim (cases_lt p pots) [
  | inl l ↦ let t : nat_lt p pots ≡ true = grind arith in rw t refl
  | inr ge ↦ let f : nat_lt p pots ≡ false = grind arith in rw f (sym (beyond_units deal p h runout (none p ge)))
]
