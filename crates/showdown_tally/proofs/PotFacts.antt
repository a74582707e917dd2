-- What one runout gives in a pot, by the hands that win there.
use Rattle.std.proofs.Common.{◌≡◌, ℕ, zero, suc, ◌+◌, ◌<◌, ◌≤◌, ◌==◌, ◌&&◌, not, Bool, true, false, cond, refl, sym, ap, ◌∙◌, inl, inr, arith, List, [], ◌∷◌, length, Option, None, map, take}
use Rattle.std.specs.Prelude.{nat_lt, filter, count_by, slice_index_or, ◌^◌, is_some}
use Rattle.std.specs.List.{list_all}
use Rattle.std.proofs.lemmas.Bool.{cases_eq, cases_lt}
use Rattle.std.proofs.lemmas.List.{get_or-take, length-take, get_or_past, length-map}
use Rattle.std.proofs.lemmas.List.Folds.{list_any-append}
use mathlib.Core.Bool.{true≢false}
use Rattle.card_sets.specs.Games.{has_side}
use Rattle.card_sets.specs.declared.games.Game.{Game}
use Rattle.card_sets.specs.declared.games.Game.TheVariants.{Holdem, Omaha, Omaha8, Stud, Stud8, Razz, Draw5, Lowball27, Triple27}
use Rattle.card_sets.specs.declared.games.Side.{Side}
use Rattle.card_sets.specs.declared.games.Side.TheVariants.{High, Low}
use Rattle.showdown_tally.specs.Cells.{no_runout}
use Rattle.card_sets.specs.PlayerSets.{hands_below, hands_of, all_within}
use Rattle.showdown_tally.specs.Settling.{tops_of, cell_by, ended}
use Rattle.showdown_tally.specs.Showdown.{best, is_beaten_by, Showdown, is_among, winners_of, winners, eligible_in, own_after, board_after, value_after, wins, ties, loses, units, units_by_sides, has_two_sides}
use Rattle.showdown_tally.specs.Tallies.{cell_over}
use Rattle.showdown_tally.specs.Pots.{pots_cells, pots_units}
use Rattle.showdown_tally.proofs.MaskWinners.{among_one, some_among, or-false, and-false}
use Rattle.showdown_tally.proofs.Winners.{hands_short, is_set}
use Rattle.showdown_tally.proofs.SideWinners.{KeptSide, side_winners-tops}
use Rattle.showdown_tally.proofs.FullHands.{list_all-index}

-- the eligible hands of a pot, and of a pot that there isn't
pub eligible_pot : (deal : Showdown) (pots : ℕ) (masks : List ℕ) (count pot : ℕ) → deal.pots ≡ map hands_of (take pots masks) → pot < length (take pots masks) → all_within count masks ≡ true → count ≤ 10
    → eligible_in deal pot ≡ hands_below (slice_index_or masks pot 0) count
eligible_pot deal pots masks count pot e l within few =
    let inside : (pot < pots) × (pot < length masks) = (omega (arith, length-take pots masks), omega (arith, length-take pots masks)) in
    let small : slice_index_or masks pot 0 < 2 ^ count = lt_true _ _ (list_all-index (λ mask. nat_lt mask (2 ^ count)) masks pot 0 within inside.1) in
    ap (λ ps. slice_index_or ps pot []) e ∙ map_index (take pots masks) pot l ∙ ap hands_of (get_or-take pots masks pot 0 inside.0) ∙ hands_short (slice_index_or masks pot 0) count 10 small few
  where
    map_index : (xs : List ℕ) (i : ℕ) → i < length xs → slice_index_or (map hands_of xs) i [] ≡ hands_of (slice_index_or xs i 0)
    map_index [] i l = absurd (omega arith)
    map_index (x ∷ xs) zero l = refl
    map_index (x ∷ xs) (suc i) l = map_index xs i (omega arith)

    lt_true : (a b : ℕ) → nat_lt a b ≡ true → a < b
    lt_true a b h = elim (cases_lt a b) [ inl l ↦ l | inr ge ↦ let f : nat_lt a b ≡ false = grind arith in absurd (true≢false (sym h ∙ f)) ]

pub no_pot : (deal : Showdown) (pots : ℕ) (masks : List ℕ) (pot : ℕ) → deal.pots ≡ map hands_of (take pots masks) → length (take pots masks) ≤ pot → eligible_in deal pot ≡ []
no_pot deal pots masks pot e l =
    let same : length (map hands_of (take pots masks)) ≡ length (take pots masks) = simp length-map in
    ap (λ ps. slice_index_or ps pot []) e ∙ get_or_past (map hands_of (take pots masks)) pot [] (omega arith)

-- whether a hand is eligible is whether its bit is set
pub among_hands : (mask n h : ℕ) → is_among h (hands_below mask n) ≡ (nat_lt h n && is_set mask h)
among_hands mask zero h = let f : nat_lt h 0 ≡ false = grind arith in rw f refl
among_hands mask (suc n) h = list_any-append (λ j. j == h) (hands_below mask n) _ ∙ (elim (cases_eq n h) [
  | inl e ↦
      let f : nat_lt h n ≡ false = grind arith in
      let t : (n == h) ≡ true = grind arith in
      let u : nat_lt h (suc n) ≡ true = grind arith in
      rw (among_hands mask n h, f, among_one (is_set mask n) n h, t, u) (ap (is_set mask) e)
  | inr ne ↦
      let f : (n == h) ≡ false = grind arith in
      let same : nat_lt h (suc n) ≡ nat_lt h n = grind arith in
      rw (among_hands mask n h, among_one (is_set mask n) n h, f, same) (or-false _)
])

-- a game without a side has no value on it
no_best : (side : Side) (game : Game) (own board : List ℕ) → has_side side game ≡ false → best side game own board ≡ None
no_best High game own board e = rw e refl
no_best Low Holdem own board e = refl
no_best Low Omaha8 own board e = absurd (true≢false e)
no_best Low Stud8 own board e = absurd (true≢false e)
no_best Low Stud own board e = refl
no_best Low Draw5 own board e = refl
no_best Low Omaha own board e = refl
no_best Low Razz own board e = absurd (true≢false e)
no_best Low Lowball27 own board e = absurd (true≢false e)
no_best Low Triple27 own board e = absurd (true≢false e)

-- where the game hasn't the side, nobody wins it
pub no_side : (side : Side) (deal : Showdown) (pot : ℕ) (runout : List (List ℕ)) → has_side side deal.state.game ≡ false → winners deal pot side runout ≡ []
unfolding winners
no_side side deal pot runout game = none (eligible_in deal pot) (eligible_in deal pot)
  where
    none : (hands xs : List ℕ) → filter (λ i. is_some (value_after side deal.state runout i) && list_all (λ j. not (is_beaten_by side (value_after side deal.state runout i) (value_after side deal.state runout j))) hands) xs ≡ []
    none hands [] = refl
    none hands (x ∷ xs) = rw (no_best side deal.state.game (own_after deal.state runout x) (board_after deal.state runout) game) (none hands xs)

-- the winners of a side of a pot, by the numbers of the hands
pub pot_winners : (side : Side) (deal : Showdown) (pot : ℕ) (runout : List (List ℕ)) (values : List (Option ℕ)) (mask n : ℕ) → eligible_in deal pot ≡ hands_below mask n
    → KeptSide side (value_after side deal.state runout) values n → winners deal pot side runout ≡ tops_of values mask n
unfolding winners
pot_winners side deal pot runout values mask n hands k = ap (winners_of side (value_after side deal.state runout)) hands ∙ side_winners-tops side (value_after side deal.state runout) values mask n k

pub count_one : {X : Type 0} → (p : X → Bool) (x : X) → count_by p (x ∷ []) ≡ cond (p x) 1 0
count_one p x = elim (p x) as (λ b. 0 + cond b 1 0 ≡ cond b 1 0) [ true ↦ refl | false ↦ refl ]

-- how a runout ends, by whether a hand is eligible and whether it is among so many winners
three : (b a : Bool) (n : ℕ) → (a ≡ true → 0 < n) → record { win = cond (b && a && (n == 1)) 1 0; tie = cond (b && a && nat_lt 1 n) 1 0; lose = cond (b && not a) 1 0 } ≡ cond b (cell_by a n) no_runout
three false a n some = refl
three true false n some = refl
three true true n some = elim (cases_eq n 1) [
  | inl e ↦
      let t : (n == 1) ≡ true = grind arith in
      let f : nat_lt 1 n ≡ false = grind arith in
      rw (t, f) refl
  | inr ne ↦
      let pos : 0 < n = some refl in
      let f : (n == 1) ≡ false = grind arith in
      let t : nat_lt 1 n ≡ true = grind arith in
      rw (f, t) refl
]

-- those who win a side
abbrev pub side_tops : Side → List ℕ → List ℕ → List ℕ
side_tops High highs lows = highs
side_tops Low highs lows = lows

-- the cell of a hand on a side of a pot
pub pot_cell : (side : Side) (deal : Showdown) (pot h : ℕ) (runout : List (List ℕ)) (mask n : ℕ) (tops : List ℕ) → eligible_in deal pot ≡ hands_below mask n → winners deal pot side runout ≡ tops
    → cell_over deal (runout ∷ []) pot h side ≡ cond (has_side side deal.state.game && (nat_lt h n && is_set mask h)) (ended tops h) no_runout
pot_cell side deal pot h runout mask n tops hands win =
    rw (count_one (wins deal pot h side) runout, count_one (ties deal pot h side) runout, count_one (loses deal pot h side) runout, win, hands, among_hands mask n h)
    (three (has_side side deal.state.game && (nat_lt h n && is_set mask h)) (is_among h tops) (length tops) (some_among h tops))

-- what a pot that there isn't gives
pub beyond_cell : (deal : Showdown) (pot h : ℕ) (side : Side) (runout : List (List ℕ)) → eligible_in deal pot ≡ [] → cell_over deal (runout ∷ []) pot h side ≡ no_runout
beyond_cell deal pot h side runout none = pot_cell side deal pot h runout 0 0 (winners deal pot side runout) none refl ∙ ap (λ b. cond b (ended (winners deal pot side runout) h) no_runout) nobody
  where
    nobody : (has_side side deal.state.game && (nat_lt h 0 && is_set 0 h)) ≡ false
    nobody = let f : nat_lt h 0 ≡ false = grind arith in rw f (and-false (has_side side deal.state.game))

pub beyond_units : (deal : Showdown) (pot h : ℕ) (runout : List (List ℕ)) → eligible_in deal pot ≡ [] → units deal pot h runout ≡ 0
unfolding winners
beyond_units deal pot h runout none = rw none (elim (has_two_sides deal.state.game) as (λ b. units_by_sides b [] [] h ≡ 0) [ true ↦ refl | false ↦ refl ])

-- nothing stands yet in the pot that comes next
pub pots_next : (deal : Showdown) (runout : List (List ℕ)) (n h : ℕ) (s : Side) → pots_cells deal runout n n h s ≡ no_runout
pots_next deal runout n h s = let f : nat_lt n n ≡ false = grind arith in rw f refl

pub pots_units_next : (deal : Showdown) (runout : List (List ℕ)) (n h : ℕ) → pots_units deal runout n n h ≡ 0
pots_units_next deal runout n h = let f : nat_lt n n ≡ false = grind arith in rw f refl
