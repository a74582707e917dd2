-- The cards of a board, street by street, and of the second board of a hand that is run twice.
use Rattle.std.specs.Prelude.{ℕ, Bool, true, false, if◌then◌else◌, List, [], ◌∷◌, Option, Some, None}
use Rattle.card_sets.specs.Cards.{union}
use Rattle.hand_events.specs.declared.events.BoardNumber.{BoardNumber}
use Rattle.hand_events.specs.declared.events.BoardNumber.TheVariants as board
use Rattle.hand_events.specs.declared.events.Event.{Event}
use Rattle.hand_events.specs.declared.events.Event.TheVariants.{Street}
use Rattle.card_sets.specs.declared.streets.Street.{Street as StreetName}
use Rattle.card_sets.specs.declared.streets.Street.TheVariants.{First, Flop, Turn, River}
use Rattle.betting_replay.specs.declared.boards.Board.{Board}
use Rattle.betting_replay.specs.Streets.{same_street}
use Rattle.betting_replay.specs.Sums.{twice_from, second_street}

-- the board is the second of two
abbrev pub is_second : BoardNumber → Bool
is_second board.Only = false
is_second board.First = false
is_second board.Second = true

-- the cards of a marker, if it is one of a street
abbrev pub cards_if : Bool → List ℕ → List ℕ
cards_if test cards = if test then cards else []

-- the cards that an event gives the board on a street, the only one or the first of two; and the second board
abbrev pub named_on : StreetName → Event → List ℕ
named_on street (Street marker number cards) = if is_second number then [] else cards_if (same_street marker (Some street)) cards
named_on street _ = []

abbrev pub named_second : StreetName → Event → List ℕ
named_second street (Street marker number cards) = if is_second number then cards_if (same_street marker (Some street)) cards else []
named_second street _ = []

-- all cards that came to the board on a street, and to the second board
abbrev pub board_on : StreetName → List Event → List ℕ
board_on street [] = []
board_on street (e ∷ h) = union (board_on street h) (named_on street e)

abbrev pub second_on : StreetName → List Event → List ℕ
second_on street [] = []
second_on street (e ∷ h) = union (second_on street h) (named_second street e)

-- a board without cards
abbrev pub no_board : Board
no_board = record { flop = []; turn = []; river = [] }

-- the boards, street by street: the only one or the first of two, and the second
abbrev pub board_of : List Event → Board
board_of h = record { flop = board_on Flop h; turn = board_on Turn h; river = board_on River h }

abbrev pub second_of : List Event → Board
second_of h = record { flop = second_on Flop h; turn = second_on Turn h; river = second_on River h }

-- the boards after one more event: a marker's cards come to the board of their street
abbrev pub board_after : Event → Board → Board
board_after (Street marker number cards) b = record {
  flop = union b.flop (named_on Flop (Street marker number cards));
  turn = union b.turn (named_on Turn (Street marker number cards));
  river = union b.river (named_on River (Street marker number cards));
}
board_after e b = b

abbrev pub second_after : Event → Board → Board
second_after (Street marker number cards) b = record {
  flop = union b.flop (named_second Flop (Street marker number cards));
  turn = union b.turn (named_second Turn (Street marker number cards));
  river = union b.river (named_second River (Street marker number cards));
}
second_after e b = b

-- of a flop, a turn, and a river, the cards of the streets up to a street, and before it
abbrev pub up_to : StreetName → List ℕ → List ℕ → List ℕ → List ℕ
up_to First flop turn river = []
up_to Flop flop turn river = flop
up_to Turn flop turn river = union flop turn
up_to _ flop turn river = union (union flop turn) river

abbrev pub before : StreetName → List ℕ → List ℕ → List ℕ → List ℕ
before First flop turn river = []
before Flop flop turn river = []
before Turn flop turn river = flop
before River flop turn river = union flop turn
before _ flop turn river = union (union flop turn) river

abbrev pub board_up_to : List Event → StreetName → List ℕ
board_up_to h street = up_to street (board_on Flop h) (board_on Turn h) (board_on River h)

abbrev pub board_before : List Event → StreetName → List ℕ
board_before h street = before street (board_on Flop h) (board_on Turn h) (board_on River h)

-- the cards that two boards share, which came before the street from which on there are two; and the cards of the
-- second board alone
abbrev pub shared_by : Option StreetName → List ℕ → List ℕ → List ℕ → List ℕ
shared_by None flop turn river = []
shared_by (Some street) flop turn river = before street flop turn river

abbrev pub shared : List Event → List ℕ
shared h = shared_by (twice_from h) (board_on Flop h) (board_on Turn h) (board_on River h)

abbrev pub second_own : List Event → List ℕ
second_own h = union (union (second_on Flop h) (second_on Turn h)) (second_on River h)

-- the second board: the cards that it shares with the first, and its own; none if it has no street
abbrev pub second_by : Option StreetName → List ℕ → List ℕ → Option (List ℕ)
second_by None both own = None
second_by (Some street) both own = Some (union both own)

abbrev pub second_board : List Event → Option (List ℕ)
second_board h = second_by (second_street h) (shared h) (second_own h)
