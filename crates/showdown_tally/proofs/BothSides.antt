-- Pots that are divided between a high and a low.
use Rattle.std.proofs.Common.{◌≡◌, ℕ, zero, suc, ◌+◌, ◌*◌, ◌/◌, ◌<◌, ◌≤◌, ◌==◌, ◌&&◌, Bool, true, false, refl, sym, ap, ◌∙◌, arith, List, [], ◌∷◌, length, map, Some, add-zero, subst}
use Rattle.std.specs.Prelude.{filter, not, is_some, nat_lt}
use Rattle.std.specs.List.{sum_by, list_all}
use Rattle.std.proofs.lemmas.List.Sums.{sum_by-cons, length-filter, count_by-le-length}
use Rattle.std.specs.Int.{bit_at}
use Rattle.card_sets.specs.declared.games.Side.TheVariants.{High, Low}
use Rattle.showdown_tally.specs.Cells.{Sums, CellFits, cell_at, cell_plus, no_runout}
use Rattle.showdown_tally.specs.declared.cells.Cell.{Cell}
use Rattle.card_sets.specs.declared.games.Side.{Side}
use Rattle.showdown_tally.specs.Settling.{side_cells, side_units, ended, whole_of, is_none, both_cells}
use Rattle.showdown_tally.specs.Showdown.{Showdown, best, part_of, units, units_by_sides, has_two_sides, value_after, own_after, board_after, eligible_in, winners, winners_of, is_beaten_by}
use Rattle.showdown_tally.specs.Laws.{AddUp}
use Rattle.showdown_tally.proofs.PotFacts.{no_side}
use Rattle.card_sets.specs.Games.{allowed, has_side}
use Rattle.card_sets.specs.declared.games.Game.{Game}
use Rattle.rank_high.specs.High.{high, greatest_of}
use mathlib.Core.Bool.{true≢false}
use Rattle.showdown_tally.proofs.MaskWinners.{and-false, plus_none, none_plus}
use Rattle.showdown_tally.proofs.WholePots.{sum_passed, whole_parts, all_among, some_winner}

-- what stands on the high side leaves the low side
pub high_leaves_low : (pot mask : ℕ) (tops : List ℕ) (n p h : ℕ) → side_cells pot High mask tops n p h Low ≡ no_runout
high_leaves_low pot mask tops n p h = rw (and-false (p == pot)) refl

-- whether somebody has a low, by the number of those who do
pub some_lows : (tops : List ℕ) → nat_lt 0 (length tops) ≡ not (is_none tops)
some_lows [] = refl
some_lows (w ∷ tops) = grind arith

-- the units of a hand of the pot itself
pub units_here : (whole pot : ℕ) (tops : List ℕ) (n h : ℕ) → h < n → side_units whole pot tops n pot h ≡ part_of whole tops h
units_here whole pot tops n h l =
    let here : (pot == pot) ≡ true = grind arith in
    let below : nat_lt h n ≡ true = grind arith in
    rw (here, below) refl

-- the units of both sides, by the definition and by the code
pub units-both : (highs lows : List ℕ) (h : ℕ) → units_by_sides true highs lows h ≡ part_of (whole_of (not (is_none lows))) highs h + part_of 2520 lows h
units-both highs [] h = omega arith
units-both highs (w ∷ lows) h = refl

-- equal parts of up to ten winners are half of the whole
half_parts : (k : ℕ) → 0 < k → k ≤ 10 → k * (2520 / k) ≡ 2520
half_parts zero some few = absurd (omega arith)
half_parts (suc zero) some few = refl
half_parts (suc (suc zero)) some few = refl
half_parts (suc (suc (suc zero))) some few = refl
half_parts (suc (suc (suc (suc zero)))) some few = refl
half_parts (suc (suc (suc (suc (suc zero))))) some few = refl
half_parts (suc (suc (suc (suc (suc (suc zero)))))) some few = refl
half_parts (suc (suc (suc (suc (suc (suc (suc zero))))))) some few = refl
half_parts (suc (suc (suc (suc (suc (suc (suc (suc zero)))))))) some few = refl
half_parts (suc (suc (suc (suc (suc (suc (suc (suc (suc zero))))))))) some few = refl
half_parts (suc (suc (suc (suc (suc (suc (suc (suc (suc (suc zero)))))))))) some few = refl
half_parts (suc (suc (suc (suc (suc (suc (suc (suc (suc (suc (suc k))))))))))) some few = absurd (omega arith)

sum-same : (f g : ℕ → ℕ) (xs : List ℕ) → ((h : ℕ) → f h ≡ g h) → sum_by f xs ≡ sum_by g xs
sum-same f g [] each = refl
sum-same f g (x ∷ xs) each = omega (arith, sum_by-cons f x xs, sum_by-cons g x xs, each x, sum-same f g xs each)

sum-add : (f g : ℕ → ℕ) (xs : List ℕ) → sum_by (λ h. f h + g h) xs ≡ sum_by f xs + sum_by g xs
sum-add f g [] = refl
sum-add f g (x ∷ xs) = omega (arith, sum_by-cons (λ h. f h + g h) x xs, sum_by-cons f x xs, sum_by-cons g x xs, sum-add f g xs)

few_passed : (p : ℕ → Bool) (hands : List ℕ) → length hands ≤ 10 → length (filter p hands) ≤ 10
few_passed p hands few = omega (arith, length-filter p hands, count_by-le-length p hands)

-- what the winners of a side get adds up
all_of_it : (p : ℕ → Bool) (hands : List ℕ) → 0 < length (filter p hands) → length hands ≤ 10 → sum_by (λ h. part_of 5040 (filter p hands) h) hands ≡ 5040
all_of_it p hands some few = sum_passed p (λ h. part_of 5040 (filter p hands) h) (5040 / length (filter p hands)) hands hands (λ h. refl) (all_among hands) ∙ whole_parts (length (filter p hands)) some (few_passed p hands few)

half_of_it : (p : ℕ → Bool) (hands : List ℕ) → 0 < length (filter p hands) → length hands ≤ 10 → sum_by (λ h. part_of 2520 (filter p hands) h) hands ≡ 2520
half_of_it p hands some few = sum_passed p (λ h. part_of 2520 (filter p hands) h) (2520 / length (filter p hands)) hands hands (λ h. refl) (all_among hands) ∙ half_parts (length (filter p hands)) some (few_passed p hands few)

-- a divided pot is given out whole: half to each side, and all of it to the high where nobody has a low
pub divided : (p q : ℕ → Bool) (hands : List ℕ) → 0 < length (filter p hands) → length hands ≤ 10 → sum_by (λ h. units_by_sides true (filter p hands) (filter q hands) h) hands ≡ 5040
divided p q hands some few = one (filter q hands) refl
  where
    one : (lows : List ℕ) → filter q hands ≡ lows → sum_by (λ h. units_by_sides true (filter p hands) lows h) hands ≡ 5040
    one [] e = all_of_it p hands some few
    one (w ∷ lows) e =
        let low : sum_by (λ h. part_of 2520 (w ∷ lows) h) hands ≡ 2520 = ap (λ l. sum_by (λ h. part_of 2520 l h) hands) (sym e) ∙ half_of_it q hands (omega (arith, ap length e)) few in
        omega (arith, sum-add (λ h. part_of 2520 (filter p hands) h) (λ h. part_of 2520 (w ∷ lows) h) hands, half_of_it p hands some few)

high_some : (game : Game) (own board : List ℕ) → has_side High game ≡ true → best High game own board ≡ Some (greatest_of (map high (allowed game own board)))
high_some game own board e = rw e refl

one_side : (high low : Bool) → high ≡ true → (high && low) ≡ false → low ≡ false
one_side true low e f = f
one_side false low e f = absurd (true≢false (sym e))

-- in a game with a high a pot is given out whole
pub pot-AddUp-high : (deal : Showdown) (runout : List (List ℕ)) (pot : ℕ) → has_side High deal.state.game ≡ true → 0 < length (eligible_in deal pot) → length (eligible_in deal pot) ≤ 10 → AddUp deal runout pot
unfolding winners
pot-AddUp-high deal runout pot game some few = one (has_two_sides deal.state.game) refl
  where
    top : 0 < length (winners_of High (value_after High deal.state runout) (eligible_in deal pot))
    top = some_winner (value_after High deal.state runout) (λ h. greatest_of (map high (allowed deal.state.game (own_after deal.state runout h) (board_after deal.state runout)))) (eligible_in deal pot)
        (λ h. high_some deal.state.game (own_after deal.state runout h) (board_after deal.state runout) game) some

    one : (two : Bool) → has_two_sides deal.state.game ≡ two → AddUp deal runout pot
    one true e =
        sum-same (λ h. units deal pot h runout) (λ h. units_by_sides true (winners deal pot High runout) (winners deal pot Low runout) h) (eligible_in deal pot) (λ h. ap (λ b. units_by_sides b (winners deal pot High runout) (winners deal pot Low runout) h) e)
        ∙ divided (λ i. is_some (value_after High deal.state runout i) && list_all (λ j. not (is_beaten_by High (value_after High deal.state runout i) (value_after High deal.state runout j))) (eligible_in deal pot))
        (λ i. is_some (value_after Low deal.state runout i) && list_all (λ j. not (is_beaten_by Low (value_after Low deal.state runout i) (value_after Low deal.state runout j))) (eligible_in deal pot)) (eligible_in deal pot) top few
    one false e =
        let none : winners deal pot Low runout ≡ [] = no_side Low deal pot runout (one_side (has_side High deal.state.game) (has_side Low deal.state.game) game e) in
        sum-same (λ h. units deal pot h runout) (λ h. part_of 5040 (winners deal pot High runout) h) (eligible_in deal pot) (λ h. ap (λ b. units_by_sides b (winners deal pot High runout) (winners deal pot Low runout) h) e ∙ ap (λ l. units_by_sides false (winners deal pot High runout) l h) none ∙ add-zero (part_of 5040 (winners deal pot High runout) h))
        ∙ all_of_it (λ i. is_some (value_after High deal.state runout i) && list_all (λ j. not (is_beaten_by High (value_after High deal.state runout i) (value_after High deal.state runout j))) (eligible_in deal pot)) (eligible_in deal pot) top few

-- in a game with a low alone a pot that somebody wins is given out whole
pub pot-AddUp-low : (deal : Showdown) (runout : List (List ℕ)) (pot : ℕ) → has_side High deal.state.game ≡ false → 0 < length (winners deal pot Low runout) → length (eligible_in deal pot) ≤ 10 → AddUp deal runout pot
unfolding winners
pot-AddUp-low deal runout pot game some few =
    let none : winners deal pot High runout ≡ [] = no_side High deal pot runout game in
    let two : has_two_sides deal.state.game ≡ false = ap (λ b. b && has_side Low deal.state.game) game in
    sum-same (λ h. units deal pot h runout) (λ h. part_of 5040 (winners deal pot Low runout) h) (eligible_in deal pot) (λ h. ap (λ b. units_by_sides b (winners deal pot High runout) (winners deal pot Low runout) h) two ∙ ap (λ l. units_by_sides false l (winners deal pot Low runout) h) none ∙ alone (winners deal pot Low runout) h)
    ∙ all_of_it (λ i. is_some (value_after Low deal.state runout i) && list_all (λ j. not (is_beaten_by Low (value_after Low deal.state runout i) (value_after Low deal.state runout j))) (eligible_in deal pot)) (eligible_in deal pot) some few
  where
    alone : (lows : List ℕ) (h : ℕ) → units_by_sides false [] lows h ≡ part_of 5040 lows h
    alone lows h = omega arith

one-true : (bit : ℕ) → bit ≡ 1 → (bit == 1) ≡ true
one-true bit e = grind arith

-- how a runout ends for an eligible hand on the side that is settled
pub high_here : (pot mask : ℕ) (tops : List ℕ) (n h : ℕ) → h < n → bit_at mask h ≡ 1 → side_cells pot High mask tops n pot h High ≡ ended tops h
high_here pot mask tops n h l bit =
    let p : (pot == pot) ≡ true = grind arith in
    let t : nat_lt h n ≡ true = grind arith in
    rw (p, t, one-true (bit_at mask h) bit) refl

pub low_here : (pot mask : ℕ) (tops : List ℕ) (n h : ℕ) → h < n → bit_at mask h ≡ 1 → side_cells pot Low mask tops n pot h Low ≡ ended tops h
low_here pot mask tops n h l bit =
    let p : (pot == pot) ≡ true = grind arith in
    let t : nat_lt h n ≡ true = grind arith in
    rw (p, t, one-true (bit_at mask h) bit) refl

pub low_leaves_high : (pot mask : ℕ) (tops : List ℕ) (n p h : ℕ) → side_cells pot Low mask tops n p h High ≡ no_runout
low_leaves_high pot mask tops n p h = rw (and-false (p == pot)) refl

pub both_high : (pot mask : ℕ) (highs lows : List ℕ) (n h : ℕ) → h < n → bit_at mask h ≡ 1 → both_cells pot mask highs lows n pot h High ≡ ended highs h
both_high pot mask highs lows n h l bit = rw (high_here pot mask highs n h l bit, low_leaves_high pot mask lows n pot h) (plus_none (ended highs h))

pub both_low : (pot mask : ℕ) (highs lows : List ℕ) (n h : ℕ) → h < n → bit_at mask h ≡ 1 → both_cells pot mask highs lows n pot h Low ≡ ended lows h
both_low pot mask highs lows n h l bit = rw (low_here pot mask lows n h l bit, high_leaves_low pot mask highs n pot h) (none_plus (ended lows h))

pub fits_as : (old : Sums) (pot h : ℕ) (side : Side) (x y : Cell) → x ≡ y → CellFits (cell_plus (cell_at old pot h side) x) → CellFits (cell_plus (cell_at old pot h side) y)
fits_as old pot h side x y e fits = let P : Cell → Type 0 = λ c. CellFits (cell_plus (cell_at old pot h side) c) in subst P e fits
