-- Choices beside a full board: the numbers of the hands, the set that wins, and what the boards of all choices add up to.
use Rattle.std.specs.Prelude.{◌≡◌, ℕ, ◌+◌, ◌*◌, ◌/◌, ◌-◌, ◌^◌, ◌≤◌, ◌==◌, Bool, if◌then◌else◌, nat_lt, List, [], ◌∷◌, map, filter, length, Option, Some, None}
use Rattle.std.specs.List.{sum_by}
use Rattle.card_sets.specs.Cards.{union, minus, deck, IsCardSet}
use Rattle.card_sets.specs.Choose.{choose}
use Rattle.card_sets.specs.Disjoint.{apart}
use Rattle.card_sets.specs.PlayerSets.{hands_below, set_of_players}
use Rattle.showdown_tally.specs.SetShares.{set_cell}
use Rattle.showdown_tally.specs.Settling.{tops_of}
use Rattle.showdown_tally.specs.Showdown.{part_of}
use Rattle.hand_ranges.specs.declared.beside.Shown.{Shown}
use Rattle.hand_ranges.specs.declared.ends.Ends.{Ends}
use Rattle.range_lines.specs.declared.spot.Weighted.{Weighted}
use Rattle.hand_ranges.specs.declared.versus.Versus.{Versus}
use Rattle.range_lines.specs.Choices.{walked, weight_of}
use Rattle.hand_ranges.specs.Taken.{number_beside}
use Rattle.range_lines.specs.Walks.{Column, Choices, Weight, Wins, Ties, Losses, Units}

-- a number, or 0 where there is none
abbrev pub number_or_none : Option ℕ → ℕ
number_or_none None = 0
number_or_none (Some n) = n

-- a hand beside a full board, with the number of its value
abbrev pub shown_beside : List ℕ → Weighted → Shown
shown_beside full w = record { hand = w.hand; value = number_or_none (number_beside full w.hand); weight = w.weight }

-- whether a hand has no card of the board
abbrev pub is_off : List ℕ → Weighted → Bool
is_off full w = apart w.hand full

-- the hands of a range that have no card of the board, and their values
abbrev pub shown_of : List ℕ → List Weighted → List Shown
shown_of full hands = map (shown_beside full) (filter (is_off full) hands)

-- a hand without its value
abbrev pub weighted_in : Shown → Weighted
weighted_in s = record { hand = s.hand; weight = s.weight }

abbrev pub ranges_shown : List (List Shown) → List (List Weighted)
ranges_shown lists = map (λ hands. map weighted_in hands) lists

-- the numbers of hands are those of their values beside the board
pub record IsShown (full : List ℕ) (s : Shown) : Type 0 where
  pub set : IsCardSet s.hand
  pub value : Some s.value ≡ number_beside full s.hand

abbrev pub AreShown : List ℕ → List Shown → Type 0
AreShown full [] = Unit {0}
AreShown full (s ∷ hands) = IsShown full s × AreShown full hands

abbrev pub AllShown : List ℕ → List (List Shown) → Type 0
AllShown full [] = Unit {0}
AllShown full (hands ∷ lists) = AreShown full hands × AllShown full lists

-- the set of the hands of a choice that win beside a full board
abbrev pub numbers_beside : List ℕ → List Weighted → List (Option ℕ)
numbers_beside full choice = map (λ w. number_beside full w.hand) choice

unfoldable pub winners_beside : List ℕ → List Weighted → ℕ
winners_beside full choice = set_of_players (tops_of (numbers_beside full choice) (2 ^ length choice - 1) (length choice))

-- what a choice adds beside a full board: so much for the set that wins, as often as the choice counts, and so much for itself
abbrev pub adds_beside : List ℕ → (ℕ → ℕ) → ℕ → List Weighted → ℕ
adds_beside full by_set each choice = weight_of choice * by_set (winners_beside full choice) + each

-- a number above each value that is less than another, and 0 below all
abbrev pub level_of : Option ℕ → ℕ
level_of None = 0
level_of (Some n) = n + 1

-- of three numbers the one for a value that is less than, the same as or more than what stands at a level
abbrev pub pick : ℕ → ℕ → ℕ → ℕ → ℕ → ℕ
pick level value less same more =
    if nat_lt level (value + 1) then more else (if value + 1 == level then same else less)

-- what a hand adds to the comparison of a range with a level, where it shares no card with some
abbrev pub versus_adds : List ℕ → ℕ → ℕ → ℕ → ℕ → ℕ → Shown → ℕ
versus_adds cards level less same more each s =
    if apart s.hand cards then s.weight * pick level s.value less same more + each else 0

-- what a comparison is worth
abbrev pub versus_worth : Versus → ℕ → ℕ → ℕ → ℕ → ℕ
versus_worth v less same more each = v.less * less + v.same * same + v.more * more + v.hands * each

-- what counts of sets from a number on are worth, with so much for each set, and with so much for each choice too
abbrev pub worth_from : ℕ → List ℕ → (ℕ → ℕ) → ℕ
worth_from set [] by_set = 0
worth_from set (times ∷ sets) by_set = times * by_set set + worth_from (set + 1) sets by_set

abbrev pub worth : Ends → (ℕ → ℕ) → ℕ → ℕ
worth ends by_set each = worth_from 0 ends.sets by_set + ends.choices * each

-- the counts grow by what some choices add, whatever each set is worth
abbrev pub EndsGrow : Ends → Ends → ((ℕ → ℕ) → ℕ → ℕ) → Type 0
EndsGrow old new more = (by_set : ℕ → ℕ) (each : ℕ) → worth new by_set each ≡ worth old by_set each + more by_set each

-- all sets together won no more often than the choices of four hands can
abbrev pub AreEndsWithin : Ends → Type 0
AreEndsWithin ends = worth ends (λ set. 1) 0 ≤ ends.choices * 2 ^ 32

-- the cards that may still come on the board, whatever the hands
abbrev pub open_cards : List ℕ → List ℕ → List ℕ
open_cards board dead = minus (minus deck board) dead

-- what the choices of hands that have no card of a full board add
abbrev pub board_adds : List (List Weighted) → List ℕ → (ℕ → ℕ) → ℕ → ℕ
board_adds ranges full by_set each = walked (map (filter (is_off full)) ranges) [] (adds_beside full by_set each)

-- what they add beside all boards that are filled with a number of some cards
abbrev pub boards_add : List (List Weighted) → List ℕ → ℕ → List ℕ → (ℕ → ℕ) → ℕ → ℕ
boards_add ranges board missing rest by_set each =
    sum_by (λ cards. board_adds ranges (union board cards) by_set each) (choose missing rest)

-- what some hands add with each hand of a range: the winners stay where it is worse, it joins them where it is as good, and else it wins alone
abbrev pub ends_adds : ℕ → ℕ → ℕ → Versus → (ℕ → ℕ) → ℕ → ℕ
ends_adds winners count weight v by_set each =
    weight * v.less * by_set winners + weight * v.same * by_set (winners + 2 ^ count) + weight * v.more * by_set (2 ^ count) + v.hands * each

-- the numbers that the counts make for the first hands of some players, by the number of runouts of each choice
abbrev pub ends_number_below : Ends → ℕ → ℕ → ℕ → Column → ℕ
ends_number_below ends players n runouts Choices = ends.choices / runouts
ends_number_below ends players n runouts Weight = worth ends (λ set. 1) 0 / runouts
ends_number_below ends players n runouts (Wins hand) =
    if nat_lt hand n then worth ends (λ set. (set_cell players hand set).win) 0 else 0
ends_number_below ends players n runouts (Ties hand) =
    if nat_lt hand n then worth ends (λ set. (set_cell players hand set).tie) 0 else 0
ends_number_below ends players n runouts (Losses hand) =
    if nat_lt hand n then worth ends (λ set. (set_cell players hand set).lose) 0 else 0
ends_number_below ends players n runouts (Units hand) =
    if nat_lt hand n then worth ends (λ set. part_of 5040 (hands_below set players) hand) 0 else 0

-- and for all of them
abbrev pub ends_number : Ends → ℕ → ℕ → Column → ℕ
ends_number ends players runouts column = ends_number_below ends players players runouts column
