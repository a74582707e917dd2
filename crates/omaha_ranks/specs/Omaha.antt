-- The best worth of two own cards and three of the board, and what it depends on.
use Rattle.std.specs.Prelude.{◌≡◌, ◌<◌, true, ℕ, Bool, ◌||◌, nat_lt, List, map, filter, max, Option}
use Rattle.std.specs.Option.{option_map}
use Rattle.card_sets.specs.Cards.{IsCardSet}
use Rattle.card_sets.specs.Choose.{choose}
use Rattle.card_sets.specs.Disjoint.{apart}
use Rattle.card_sets.specs.Games.{two_and_three}
use Rattle.rank_high.specs.High.{high, value_of, greatest_of, count_of_rank}
use Rattle.rank_high.specs.Parts.{of_suit, plain_high}
use Rattle.rank_low.specs.Low.{low_a5, qualifies, least_of, ace_number}
use Rattle.omaha_ranks.specs.Worth.{greatest_number, low_worth}

-- the number of the best of some fives as a high hand
abbrev pub high_number : List (List ℕ) → ℕ
high_number fives = value_of (greatest_of (map high fives))

-- the number of the best five by ranks alone, if there were no flushes
abbrev pub plain_high_number : List (List ℕ) → ℕ
plain_high_number fives = value_of (greatest_of (map plain_high fives))

-- the number of the best of the fives that qualify as a low of eight or better; none if no five does
abbrev pub eight_number : List (List ℕ) → Option ℕ
eight_number fives = option_map ace_number (least_of (map low_a5 (filter qualifies fives)))

-- the fives that two own cards make with three of the board
abbrev pub fives : List ℕ → List ℕ → List (List ℕ)
fives own board = two_and_three own board

-- the worth of the best of them as a high hand
unfoldable pub omaha_high : List ℕ → List ℕ → List ℕ
omaha_high own board = greatest_of (map high (fives own board))

-- their best worth if there were no flushes
unfoldable pub omaha_plain : List ℕ → List ℕ → List ℕ
omaha_plain own board = greatest_of (map plain_high (fives own board))

-- the number of the best five of one suit, 0 if there are fewer than two own cards of it or fewer than three of the
-- board
abbrev pub omaha_suited : List ℕ → List ℕ → ℕ → ℕ
omaha_suited own board suit = value_of (omaha_high (of_suit own suit) (of_suit board suit))

-- an ace to eight: the only cards of a low of eight or better
abbrev pub is_low : ℕ → Bool
is_low card = nat_lt card 28 || nat_lt 47 card

-- the own cards and the board share no card
pub record ArePlaced (own board : List ℕ) : Type 0 where
  pub own_cards : IsCardSet own
  pub board_cards : IsCardSet board
  pub apart : apart own board ≡ true

-- the best high is the best by ranks alone, or the best of one suit
abbrev pub IsByRanksOrSuit : Type 0
IsByRanksOrSuit = (own board : List ℕ) → ArePlaced own board → value_of (omaha_high own board)
    ≡ max (value_of (omaha_plain own board)) (max (max (omaha_suited own board 0) (omaha_suited own board 1)) (max (omaha_suited own board 2) (omaha_suited own board 3)))

-- cards with the same ranks
abbrev pub SameRanks : List ℕ → List ℕ → Type 0
SameRanks a b = (rank : ℕ) → rank < 13 → count_of_rank a rank ≡ count_of_rank b rank

-- own cards and boards with the same ranks have the same worth by ranks alone
abbrev pub RanksDecide : Type 0
RanksDecide = (own board other_own other_board : List ℕ) → ArePlaced own board → ArePlaced other_own other_board → SameRanks own other_own → SameRanks board other_board
    → value_of (omaha_plain own board) ≡ value_of (omaha_plain other_own other_board)

-- own cards and boards with the same ranks have the same low
abbrev pub LowRanksDecide : Type 0
LowRanksDecide = (own board other_own other_board : List ℕ) → ArePlaced own board → ArePlaced other_own other_board → SameRanks own other_own → SameRanks board other_board
    → eight_number (fives own board) ≡ eight_number (fives other_own other_board)

-- the greatest number of three cards of a board
abbrev pub best_three : (List ℕ → ℕ) → List ℕ → ℕ
best_three number board = greatest_number (map number (choose 3 board))

-- by ranks alone the worth of a board is that of its best three cards
abbrev pub ThreesDecide : Type 0
ThreesDecide = (own board : List ℕ) → ArePlaced own board → value_of (omaha_plain own board) ≡ best_three (λ three. value_of (omaha_plain own three)) board

-- as a low, too, the worth of a board is that of its best three cards; the numbers are turned round, so that greater
-- is better, and 0 is for no low
abbrev pub LowThreesDecide : Type 0
LowThreesDecide = (own board : List ℕ) → ArePlaced own board → low_worth (eight_number (fives own board)) ≡ best_three (λ three. low_worth (eight_number (fives own three))) board

-- only cards from ace to eight make a low of eight or better
abbrev pub OnlyLowCards : Type 0
OnlyLowCards = (own board : List ℕ) → ArePlaced own board → eight_number (fives own board) ≡ eight_number (fives (filter is_low own) (filter is_low board))
