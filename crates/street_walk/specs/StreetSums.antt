-- Sums over the choices of a street's cards, and the law about them.
use Rattle.std.specs.Prelude.{◌≡◌, ℕ, ◌*◌, ◌<◌, List, [], length, slice_index_or}
use Rattle.std.specs.List.{sum_by}
use Rattle.card_sets.specs.Cards.{IsCardSet}
use Rattle.card_sets.specs.State.{State}
use Rattle.card_sets.specs.declared.games.Side.{Side}
use Rattle.runout_ranges.specs.declared.limits.TheConstants.{RUNOUT_MAX}
use Rattle.showdown_tally.specs.Cells.{Sums, cell_at, units_at}
use Rattle.showdown_tally.specs.Showdown.{Showdown}
use Rattle.showdown_tally.specs.Tallies.{cell_over, units_over, runouts_after}
use Rattle.showdown_tally.specs.declared.cells.Cell.{Cell}
use Rattle.street_walk.specs.Streets.{choices_of, after, at_end, divisions}

-- what the type of known cards states of its values: the board and the hands are sets of cards
pub record IsKnown (s : State) : Type 0 where
  pub board : IsCardSet s.board
  pub hands : (i : ℕ) → i < length s.hands → IsCardSet (slice_index_or s.hands i [])

-- a number for each state, summed over all choices of the next street's cards
abbrev pub over_choices : (State → ℕ) → State → ℕ
over_choices number s = sum_by (λ sets. number (after s sets)) (choices_of s)

-- a number for the final cards, summed over all runouts
abbrev pub over_runouts : (State → ℕ) → State → ℕ
over_runouts number s = sum_by (λ runout. number (at_end s runout)) (runouts_after s)

-- the deal after a choice of the next street's cards, with the same pots
abbrev pub deal_after : Showdown → List (List ℕ) → Showdown
deal_after deal sets = record { state = after deal.state sets; pots = deal.pots }

-- a number for each deal, summed over all choices of the next street's cards
abbrev pub over_street : (Showdown → ℕ) → Showdown → ℕ
over_street number deal = sum_by (λ sets. number (deal_after deal sets)) (choices_of deal.state)

-- the numbers of the whole count of a deal: its runouts, and the cells or the units of a hand in a pot
abbrev pub full_runouts : Showdown → ℕ
full_runouts deal = length (runouts_after deal.state)

abbrev pub full_cell : Showdown → ℕ → ℕ → Side → Cell
full_cell deal pot hand side = cell_over deal (runouts_after deal.state) pot hand side

abbrev pub full_units : Showdown → ℕ → ℕ → ℕ
full_units deal pot hand = units_over deal (runouts_after deal.state) pot hand

-- the street law of a deal: summed over all choices of the next street, each number of the whole count is that of the
-- deal itself, times the number of ways in which one runout divides
pub record IsStreetLaw (deal : Showdown) : Type 0 where
  pub runouts : over_street full_runouts deal ≡ divisions deal.state * full_runouts deal
  pub wins : (pot hand : ℕ) (side : Side) → over_street (λ d. (full_cell d pot hand side).win) deal ≡ divisions deal.state * (full_cell deal pot hand side).win
  pub ties : (pot hand : ℕ) (side : Side) → over_street (λ d. (full_cell d pot hand side).tie) deal ≡ divisions deal.state * (full_cell deal pot hand side).tie
  pub losses : (pot hand : ℕ) (side : Side) → over_street (λ d. (full_cell d pot hand side).lose) deal ≡ divisions deal.state * (full_cell deal pot hand side).lose
  pub units : (pot hand : ℕ) → over_street (λ d. full_units d pot hand) deal ≡ divisions deal.state * full_units deal pot hand

-- the sums are those of the whole counts after some choices of the next street's cards
pub record IsSumOver (deal : Showdown) (some : List (List (List ℕ))) (sums : Sums) : Type 0 where
  pub runouts : sums.runouts ≡ sum_by (λ sets. full_runouts (deal_after deal sets)) some
  pub wins : (pot hand : ℕ) (side : Side) → pot < 10 → hand < 10 → (cell_at sums pot hand side).win ≡ sum_by (λ sets. (full_cell (deal_after deal sets) pot hand side).win) some
  pub ties : (pot hand : ℕ) (side : Side) → pot < 10 → hand < 10 → (cell_at sums pot hand side).tie ≡ sum_by (λ sets. (full_cell (deal_after deal sets) pot hand side).tie) some
  pub losses : (pot hand : ℕ) (side : Side) → pot < 10 → hand < 10 → (cell_at sums pot hand side).lose ≡ sum_by (λ sets. (full_cell (deal_after deal sets) pot hand side).lose) some
  pub units : (pot hand : ℕ) → pot < 10 → hand < 10 → units_at sums pot hand ≡ sum_by (λ sets. full_units (deal_after deal sets) pot hand) some

-- the sums are those of the whole counts after all choices of the next street's cards
abbrev pub IsStreetSum : Showdown → Sums → Type 0
IsStreetSum deal sums = IsSumOver deal (choices_of deal.state) sums

-- the sums are those of the deal itself, times the number of ways in which one runout divides
pub record IsDivided (deal : Showdown) (sums : Sums) : Type 0 where
  pub runouts : sums.runouts ≡ divisions deal.state * full_runouts deal
  pub wins : (pot hand : ℕ) (side : Side) → pot < 10 → hand < 10 → (cell_at sums pot hand side).win ≡ divisions deal.state * (full_cell deal pot hand side).win
  pub ties : (pot hand : ℕ) (side : Side) → pot < 10 → hand < 10 → (cell_at sums pot hand side).tie ≡ divisions deal.state * (full_cell deal pot hand side).tie
  pub losses : (pot hand : ℕ) (side : Side) → pot < 10 → hand < 10 → (cell_at sums pot hand side).lose ≡ divisions deal.state * (full_cell deal pot hand side).lose
  pub units : (pot hand : ℕ) → pot < 10 → hand < 10 → units_at sums pot hand ≡ divisions deal.state * full_units deal pot hand

-- after all choices of the next street's cards there are more runouts than may be counted
abbrev pub AreTooMany : State → Type 0
AreTooMany s = RUNOUT_MAX < divisions s * length (runouts_after s)
