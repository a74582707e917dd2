-- What the runouts give the hands of a pot, by the counts of its sides.
use Rattle.std.proofs.Common.{◌≡◌, ℕ, ◌+◌, ◌<◌, ◌≤◌, ◌==◌, ◌&&◌, ◌^◌, Bool, true, false, cond, refl, sym, ap, ◌∙◌, inl, inr, arith, List, [], ◌∷◌}
use Rattle.std.specs.Prelude.{nat_lt, count_by, is_some, not, slice_index, slice_index_or}
use Rattle.std.specs.List.{sum_by, list_all}
use Rattle.std.proofs.lemmas.Bool.{cases_lt}
use Rattle.std.proofs.lemmas.List.Sums.{sum_by-cons}
use Rattle.std.proofs.lemmas.Nat.{pow_pos}
use Rattle.card_sets.specs.Games.{has_side}
use Rattle.card_sets.specs.PlayerSets.{hands_below, set_of_players}
use Rattle.card_sets.specs.declared.games.Game.{Game}
use Rattle.card_sets.specs.declared.games.Side.{Side}
use Rattle.card_sets.specs.declared.games.Side.TheVariants.{High, Low}
use Rattle.showdown_tally.specs.Cells.{cell_plus, is_side, no_runout}
use Rattle.showdown_tally.specs.CountShares.{cell_of_places, given_cells, is_halved, places_sum, pot_given, pot_given_units, pots_given, pots_given_units, row_of, units_of_places, units_of_set}
use Rattle.showdown_tally.specs.SetShares.{set_cell}
use Rattle.showdown_tally.specs.Settling.{ended, is_none, whole_of}
use Rattle.showdown_tally.specs.Showdown.{Showdown, eligible_in, has_two_sides, is_among, is_beaten_by, part_of, plays, ties, loses, units, units_by_sides, value_after, winners, wins}
use Rattle.showdown_tally.specs.SideCounts.{count_place}
use Rattle.showdown_tally.specs.Sides.{side_outcome}
use Rattle.showdown_tally.specs.Tallies.{cell_over, units_over}
use Rattle.showdown_tally.specs.declared.cells.Cell.{Cell}
use Rattle.showdown_tally.proofs.ClassSums.{by_same}
use Rattle.showdown_tally.proofs.CountSums.{IsPlayed, by_plus, set_again, sum_over, unmarked}
use Rattle.showdown_tally.proofs.PotFacts.{among_hands, beyond_units, count_one, no_side, pot_cell}
use Rattle.showdown_tally.proofs.WholePots.{among_passed, cells-EndsOneWay}
use Rattle.showdown_tally.proofs.MaskWinners.{and-false, none_plus, plus_none}
use Rattle.showdown_tally.proofs.Winners.{is_set}

-- a pot whose hands are those of a mask, and how often each set of hands wins each side that it is played for
pub record IsCounted (deal : Showdown) (all : List (List (List ℕ))) (masks : List ℕ) (rows : List (List ℕ)) (count pot : ℕ) : Type 0 where
  pub few : count ≤ 10
  pub hands : eligible_in deal pot ≡ hands_below (slice_index_or masks pot 0) count
  pub counts : (side : Side) (place : ℕ) → has_side side deal.state.game ≡ true → place < 2048 → slice_index (row_of rows pot side) place ≡ count_by (λ runout. count_place deal pot side runout == place) all

played : (deal : Showdown) (all : List (List (List ℕ))) (masks : List ℕ) (rows : List (List ℕ)) (count pot : ℕ) → IsCounted deal all masks rows count pot → (side : Side) → has_side side deal.state.game ≡ true
    → IsPlayed deal all pot (slice_index_or masks pot 0) count side (row_of rows pot side)
played deal all masks rows count pot is side has = record { few = is.few; has = has; hands = is.hands; counts = λ place l. is.counts side place has l }

alike : (b : Bool) (x : ℕ) → cond b x x ≡ x
alike true x = refl
alike false x = refl

-- how one runout ends for an eligible hand, by the set that wins
cell_by_set : (deal : Showdown) (all : List (List (List ℕ))) (pot mask count : ℕ) (side : Side) (row : List ℕ) → IsPlayed deal all pot mask count side row → (h : ℕ) → (nat_lt h count && is_set mask h) ≡ true
    → (runout : List (List ℕ)) → set_cell count h (side_outcome side deal pot runout) ≡ cell_over deal (runout ∷ []) pot h side
cell_by_set deal all pot mask count side row is h eligible runout =
    ap (λ tops. ended tops h) (set_again deal pot mask count side runout is.hands)
    ∙ sym (pot_cell side deal pot h runout mask count (winners deal pot side runout) is.hands refl ∙ rw (is.has, eligible) refl)

-- the cell of an eligible hand
cell_here : (deal : Showdown) (all : List (List (List ℕ))) (pot mask count : ℕ) (side : Side) (row : List ℕ) → IsPlayed deal all pot mask count side row → (h : ℕ) → (nat_lt h count && is_set mask h) ≡ true
    → cell_of_places row count h (2 ^ count) ≡ cell_over deal all pot h side
cell_here deal all pot mask count side row is h eligible =
    let win : places_sum row (λ set. (set_cell count h set).win) (λ set. (set_cell count h set).win) (2 ^ count) ≡ count_by (wins deal pot h side) all =
    sum_over deal all pot mask count side row is (λ set. (set_cell count h set).win) (λ set. (set_cell count h set).win) (λ runout. cond (wins deal pot h side runout) 1 0)
    (λ runout. alike (unmarked deal pot side runout) (set_cell count h (side_outcome side deal pot runout)).win ∙ ap (λ (c : Cell). c.win) (cell_by_set deal all pot mask count side row is h eligible runout) ∙ count_one (wins deal pot h side) runout) in
    let tie : places_sum row (λ set. (set_cell count h set).tie) (λ set. (set_cell count h set).tie) (2 ^ count) ≡ count_by (ties deal pot h side) all =
    sum_over deal all pot mask count side row is (λ set. (set_cell count h set).tie) (λ set. (set_cell count h set).tie) (λ runout. cond (ties deal pot h side runout) 1 0)
    (λ runout. alike (unmarked deal pot side runout) (set_cell count h (side_outcome side deal pot runout)).tie ∙ ap (λ (c : Cell). c.tie) (cell_by_set deal all pot mask count side row is h eligible runout) ∙ count_one (ties deal pot h side) runout) in
    let lose : places_sum row (λ set. (set_cell count h set).lose) (λ set. (set_cell count h set).lose) (2 ^ count) ≡ count_by (loses deal pot h side) all =
    sum_over deal all pot mask count side row is (λ set. (set_cell count h set).lose) (λ set. (set_cell count h set).lose) (λ runout. cond (loses deal pot h side runout) 1 0)
    (λ runout. alike (unmarked deal pot side runout) (set_cell count h (side_outcome side deal pot runout)).lose ∙ ap (λ (c : Cell). c.lose) (cell_by_set deal all pot mask count side row is h eligible runout) ∙ count_one (loses deal pot h side) runout) in
    rw (win, tie, lose) refl

self_side : (a : Side) → is_side a a ≡ true
self_side High = refl
self_side Low = refl

-- the cells of a side of a pot are those of its runouts
side_counted : (deal : Showdown) (all : List (List (List ℕ))) (masks : List ℕ) (rows : List (List ℕ)) (count pot : ℕ) → IsCounted deal all masks rows count pot → (side : Side) (h : ℕ)
    → given_cells deal.state.game masks rows count pot side pot h side ≡ cell_over deal all pot h side
side_counted deal all masks rows count pot is side h =
    let here : (pot == pot) ≡ true = grind arith in
    rw (here, self_side side) (one (has_side side deal.state.game) (nat_lt h count && is_set (slice_index_or masks pot 0) h) refl refl)
  where
    nobody : (has_side side deal.state.game && (nat_lt h count && is_set (slice_index_or masks pot 0) h)) ≡ false → no_runout ≡ cell_over deal all pot h side
    nobody e =
        let out : plays deal pot h side ≡ false = rw (is.hands, among_hands (slice_index_or masks pot 0) count h) e in
        sym ((cells-EndsOneWay deal all pot h side).not_playing out)

    one : (has b : Bool) → has_side side deal.state.game ≡ has → (nat_lt h count && is_set (slice_index_or masks pot 0) h) ≡ b
        → cond has (cond b (cell_of_places (row_of rows pot side) count h (2 ^ count)) no_runout) no_runout ≡ cell_over deal all pot h side
    one true true has e = cell_here deal all pot (slice_index_or masks pot 0) count side (row_of rows pot side) (played deal all masks rows count pot is side has) h e
    one true false has e = nobody (rw (has, e) refl)
    one false b has e = nobody (rw has refl)

blank : (b : Bool) → cond b no_runout no_runout ≡ no_runout
blank true = refl
blank false = refl

-- a side gives no cell of the other one
high_alone : (game : Game) (masks : List ℕ) (rows : List (List ℕ)) (count pot p h : ℕ) → given_cells game masks rows count pot Low p h High ≡ no_runout
high_alone game masks rows count pot p h = rw (and-false (p == pot)) (blank (has_side Low game))

pub low_alone : (game : Game) (masks : List ℕ) (rows : List (List ℕ)) (count pot p h : ℕ) → given_cells game masks rows count pot High p h Low ≡ no_runout
low_alone game masks rows count pot p h = rw (and-false (p == pot)) (blank (has_side High game))

pot_counted : (deal : Showdown) (all : List (List (List ℕ))) (masks : List ℕ) (rows : List (List ℕ)) (count pot : ℕ) → IsCounted deal all masks rows count pot → (h : ℕ) (s : Side)
    → pot_given deal.state.game masks rows count pot pot h s ≡ cell_over deal all pot h s
pot_counted deal all masks rows count pot is h High = ap (λ c. cell_plus (given_cells deal.state.game masks rows count pot High pot h High) c) (high_alone deal.state.game masks rows count pot pot h) ∙ plus_none _ ∙ side_counted deal all masks rows count pot is High h
pot_counted deal all masks rows count pot is h Low = ap (λ c. cell_plus c (given_cells deal.state.game masks rows count pot Low pot h Low)) (low_alone deal.state.game masks rows count pot pot h) ∙ none_plus _ ∙ side_counted deal all masks rows count pot is Low h

-- the units of a runout on a side that a pot may not be played for
abbrev side_part : Showdown → ℕ → ℕ → Side → List (List ℕ) → ℕ
side_part deal pot h side runout =
    cond (has_side side deal.state.game) (cond (unmarked deal pot side runout) (part_of (whole_of (is_halved deal.state.game side)) (winners deal pot side runout) h) (part_of 2520 (winners deal pot side runout) h)) 0

zeros : (all : List (List (List ℕ))) → ◌≡◌ {A = ℕ} 0 (sum_by (λ (runout : List (List ℕ)). 0) all)
zeros [] = refl
zeros (x ∷ xs) = zeros xs

-- a set has no hand where its number is 0
none_set : (hands : List ℕ) → (set_of_players hands == 0) ≡ is_none hands
none_set [] = refl
none_set (h ∷ hands) =
    let bit : 0 < 2 ^ h = pow_pos h in
    let more : 0 < set_of_players (h ∷ hands) = omega (arith, bit, sum_by-cons (λ player. 2 ^ player) h hands) in
    grind arith

-- the two sides give a hand its units
in_sides : (two_high two_low : Bool) (highs lows : List ℕ) (none : Bool) (h : ℕ) → none ≡ is_none lows → (two_high ≡ false → highs ≡ []) → (two_low ≡ false → lows ≡ [])
    → cond two_high (cond none (part_of 5040 highs h) (part_of 2520 highs h)) 0 + cond two_low (part_of (whole_of two_high) lows h) 0 ≡ units_by_sides (two_high && two_low) highs lows h
in_sides true true highs [] none h m f g = rw m (omega arith)
in_sides true true highs (w ∷ lows) none h m f g = rw m refl
in_sides true false highs lows none h m f g = let e : lows ≡ [] = g refl in rw (m, e) refl
in_sides false true highs lows none h m f g = let e : highs ≡ [] = f refl in rw e refl
in_sides false false highs lows none h m f g = let d : highs ≡ [] = f refl in let e : lows ≡ [] = g refl in rw (d, e) refl

parts_counted : (deal : Showdown) (pot h : ℕ) (runout : List (List ℕ)) → side_part deal pot h High runout + side_part deal pot h Low runout ≡ units deal pot h runout
parts_counted deal pot h runout =
    in_sides (has_side High deal.state.game) (has_side Low deal.state.game) (winners deal pot High runout) (winners deal pot Low runout) (unmarked deal pot High runout) h
    (none_set (winners deal pot Low runout)) (no_side High deal pot runout) (no_side Low deal pot runout)

-- the units of an eligible hand on a side
units_here : (deal : Showdown) (all : List (List (List ℕ))) (masks : List ℕ) (rows : List (List ℕ)) (count pot : ℕ) → IsCounted deal all masks rows count pot → (side : Side) (h : ℕ)
    → cond (has_side side deal.state.game) (units_of_places (row_of rows pot side) (is_halved deal.state.game side) count h (2 ^ count)) 0 ≡ sum_by (side_part deal pot h side) all
units_here deal all masks rows count pot is side h = one (has_side side deal.state.game) refl
  where
    one : (has : Bool) → has_side side deal.state.game ≡ has → cond has (units_of_places (row_of rows pot side) (is_halved deal.state.game side) count h (2 ^ count)) 0 ≡ sum_by (side_part deal pot h side) all
    one true has =
        sum_over deal all pot (slice_index_or masks pot 0) count side (row_of rows pot side) (played deal all masks rows count pot is side has)
        (units_of_set (is_halved deal.state.game side) count h) (units_of_set true count h) (side_part deal pot h side)
        (λ runout. ap (λ hands. cond (unmarked deal pot side runout) (part_of (whole_of (is_halved deal.state.game side)) hands h) (part_of 2520 hands h)) (set_again deal pot (slice_index_or masks pot 0) count side runout is.hands)
        ∙ sym (ap (λ b. cond b (cond (unmarked deal pot side runout) (part_of (whole_of (is_halved deal.state.game side)) (winners deal pot side runout) h) (part_of 2520 (winners deal pot side runout) h)) 0) has))
    one false has = zeros all ∙ by_same (λ runout. 0) (side_part deal pot h side) all
        (λ runout. sym (ap (λ b. cond b (cond (unmarked deal pot side runout) (part_of (whole_of (is_halved deal.state.game side)) (winners deal pot side runout) h) (part_of 2520 (winners deal pot side runout) h)) 0) has))

among_winners : (deal : Showdown) (pot h : ℕ) (side : Side) (runout : List (List ℕ)) → is_among h (eligible_in deal pot) ≡ false → is_among h (winners deal pot side runout) ≡ false
unfolding winners
among_winners deal pot h side runout out =
    among_passed (λ i. is_some (value_after side deal.state runout i) && list_all (λ j. not (is_beaten_by side (value_after side deal.state runout i) (value_after side deal.state runout j))) (eligible_in deal pot)) h (eligible_in deal pot) ∙ rw out (and-false _)

no_units : (two : Bool) (high low : List ℕ) (h : ℕ) → is_among h high ≡ false → is_among h low ≡ false → units_by_sides two high low h ≡ 0
no_units true high [] h out none = rw out refl
no_units true high (w ∷ low) h out none = rw (out, none) refl
no_units false high low h out none = rw (out, none) refl

nothing : (all : List (List (List ℕ))) (each : List (List ℕ) → ℕ) → ((runout : List (List ℕ)) → each runout ≡ 0) → 0 ≡ sum_by each all
nothing all each none = zeros all ∙ sym (by_same each (λ runout. 0) all none)

-- the units of a pot
pot_units_counted : (deal : Showdown) (all : List (List (List ℕ))) (masks : List ℕ) (rows : List (List ℕ)) (count pot : ℕ) → IsCounted deal all masks rows count pot → (h : ℕ)
    → pot_given_units deal.state.game masks rows count pot pot h ≡ units_over deal all pot h
pot_units_counted deal all masks rows count pot is h =
    let here : (pot == pot) ≡ true = grind arith in
    rw here (one (nat_lt h count && is_set (slice_index_or masks pot 0) h) refl)
  where
    none : (b : Bool) → ◌≡◌ {A = ℕ} (cond b 0 0) 0
    none true = refl
    none false = refl

    one : (b : Bool) → (nat_lt h count && is_set (slice_index_or masks pot 0) h) ≡ b
        → cond (has_side High deal.state.game) (cond b (units_of_places (row_of rows pot High) false count h (2 ^ count)) 0) 0
        + cond (has_side Low deal.state.game) (cond b (units_of_places (row_of rows pot Low) (has_side High deal.state.game) count h (2 ^ count)) 0) 0 ≡ units_over deal all pot h
    one true e =
        rw (units_here deal all masks rows count pot is High h, units_here deal all masks rows count pot is Low h)
        (sym (by_plus (side_part deal pot h High) (side_part deal pot h Low) all) ∙ by_same (λ runout. side_part deal pot h High runout + side_part deal pot h Low runout) (units deal pot h) all (parts_counted deal pot h))
    one false e =
        let out : is_among h (eligible_in deal pot) ≡ false = ap (is_among h) is.hands ∙ among_hands (slice_index_or masks pot 0) count h ∙ e in
        rw (none (has_side High deal.state.game), none (has_side Low deal.state.game)) (nothing all (units deal pot h)
        (λ runout. no_units (has_two_sides deal.state.game) (winners deal pot High runout) (winners deal pot Low runout) h (among_winners deal pot h High runout out) (among_winners deal pot h Low runout out)))

-- all pots: what the runouts give
pub pots_counted : (deal : Showdown) (all : List (List (List ℕ))) (masks : List ℕ) (rows : List (List ℕ)) (count pots : ℕ)
    → ((p : ℕ) → p < pots → IsCounted deal all masks rows count p) → ((p : ℕ) → pots ≤ p → eligible_in deal p ≡ [])
    → (p h : ℕ) (s : Side) → pots_given deal.state.game masks rows count pots p h s ≡ cell_over deal all p h s
pots_counted deal all masks rows count pots each none p h s = elim (cases_lt p pots) [
  | inl l ↦ let t : nat_lt p pots ≡ true = grind arith in rw t (pot_counted deal all masks rows count p (each p l) h s)
  | inr ge ↦
      let f : nat_lt p pots ≡ false = grind arith in
      let out : plays deal p h s ≡ false = rw (none p ge) (and-false (has_side s deal.state.game)) in
      rw f (sym ((cells-EndsOneWay deal all p h s).not_playing out))
]

pub pots_units_counted : (deal : Showdown) (all : List (List (List ℕ))) (masks : List ℕ) (rows : List (List ℕ)) (count pots : ℕ)
    → ((p : ℕ) → p < pots → IsCounted deal all masks rows count p) → ((p : ℕ) → pots ≤ p → eligible_in deal p ≡ [])
    → (p h : ℕ) → pots_given_units deal.state.game masks rows count pots p h ≡ units_over deal all p h
pots_units_counted deal all masks rows count pots each none p h = elim (cases_lt p pots) [
  | inl l ↦ let t : nat_lt p pots ≡ true = grind arith in rw t (pot_units_counted deal all masks rows count p (each p l) h)
  | inr ge ↦ let f : nat_lt p pots ≡ false = grind arith in rw f (nothing all (units deal p h) (λ runout. beyond_units deal p h runout (none p ge)))
]
