-- Choices of one hand from each of some ranges, and what they add up to.
use Rattle.std.specs.Prelude.{ℕ, zero, suc, ◌++◌, ◌+◌, ◌*◌, ◌-◌, ◌==◌, nat_lt, Bool, if◌then◌else◌, List, [], ◌∷◌, map, filter, length}
use Rattle.std.specs.List.{sum_by, flat_map}
use Rattle.runout_ranges.specs.Ways.{binomial}
use Rattle.range_lines.specs.RangeSpot.{Ranges}
use Rattle.card_sets.specs.Disjoint.{all_apart}
use Rattle.card_sets.specs.declared.games.Game.TheVariants.{Holdem}
use Rattle.card_sets.specs.declared.games.Side.TheVariants.{High}
use Rattle.showdown_tally.specs.Showdown.{Showdown}
use Rattle.showdown_tally.specs.Tallies.{cell_over, units_over, runouts_after}
use Rattle.showdown_tally.specs.declared.cells.Cell.{Cell}
use Rattle.range_lines.specs.declared.spot.Weighted.{Weighted}

-- all ways to take one hand from each range, the first range's choice first
abbrev pub taken_from : List (List Weighted) → List (List Weighted)
taken_from [] = [] ∷ []
taken_from (range ∷ ranges) =
    flat_map (λ first. map (λ rest. first ∷ rest) (taken_from ranges)) range

abbrev pub hands_in : List Weighted → List (List ℕ)
hands_in choice = map (λ w. w.hand) choice

-- no card is in two of the hands
abbrev pub is_disjoint : List Weighted → Bool
is_disjoint choice = all_apart (hands_in choice)

-- the choices that count: those in which no card is in two hands
abbrev pub choices : List (List Weighted) → List (List Weighted)
choices ranges = filter is_disjoint (taken_from ranges)

-- how much a choice counts: the product of its hands' weights
abbrev pub weight_of : List Weighted → ℕ
weight_of [] = 1
weight_of (w ∷ choice) = w.weight * weight_of choice

-- the numbers below n, rising
abbrev pub numbers_below : ℕ → List ℕ
numbers_below zero = []
numbers_below (suc n) = numbers_below n ++ n ∷ []

-- the deal of a choice: one pot, in which every hand is eligible
abbrev pub deal_of_choice : List ℕ → List ℕ → List Weighted → Showdown
deal_of_choice board dead choice = record {
  state = record { game = Holdem; hands = hands_in choice; board = board; dead = dead };
  pots = numbers_below (length choice) ∷ [];
}

-- a number for each choice, as often as the choice counts, added up over all choices
abbrev pub over_choices : (List Weighted → ℕ) → List (List Weighted) → ℕ
over_choices number ranges = sum_by (λ choice. weight_of choice * number choice) (choices ranges)

-- the numbers of the whole count of a choice: its runouts, and a hand's cell and units
abbrev pub full_runouts : List ℕ → List ℕ → List Weighted → ℕ
full_runouts board dead choice = length (runouts_after (deal_of_choice board dead choice).state)

abbrev pub full_cell : List ℕ → List ℕ → ℕ → List Weighted → Cell
full_cell board dead hand choice = cell_over (deal_of_choice board dead choice)
    (runouts_after (deal_of_choice board dead choice).state) 0 hand High

abbrev pub full_units : List ℕ → List ℕ → ℕ → List Weighted → ℕ
full_units board dead hand choice = units_over (deal_of_choice board dead choice)
    (runouts_after (deal_of_choice board dead choice).state) 0 hand

-- how many choices there are at the most, those that share a card too
abbrev pub most_choices : List (List Weighted) → ℕ
most_choices [] = 1
most_choices (range ∷ ranges) = length range * most_choices ranges

-- how much all choices count
abbrev pub full_weight : List (List Weighted) → ℕ
full_weight ranges = over_choices (λ choice. 1) ranges

-- what a walk adds up over the choices that go on from some hands, where a hand that shares a card leads nowhere
abbrev pub walked : List (List Weighted) → List Weighted → (List Weighted → ℕ) → ℕ
walked [] taken number = number taken
walked (range ∷ ranges) taken number = sum_by (λ w.
    if is_disjoint (taken ++ w ∷ []) then walked ranges (taken ++ w ∷ []) number else 0) range

-- how many runouts each choice has, by the numbers of cards: the ways to fill the board from the cards that are left
abbrev pub runouts_of_choice : Ranges → ℕ
runouts_of_choice spot =
    binomial (52 - (length spot.board + length spot.dead + 2 * length spot.ranges))
    (5 - length spot.board)

-- whether there are more runouts of all choices than a limit, those that share a card among them
abbrev pub are_above : ℕ → Ranges → Bool
are_above limit spot = nat_lt limit (most_choices spot.ranges * runouts_of_choice spot)

-- whether no choice is disjoint
abbrev pub has_no_choice : Ranges → Bool
has_no_choice spot = length (choices spot.ranges) == 0
