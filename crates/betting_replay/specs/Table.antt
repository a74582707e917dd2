-- The table: the state of each seat, and the open cards.
use Rattle.std.specs.Prelude.{ℕ, Bool, false, List, [], Option, None, is_some, slice_index_or}
use Rattle.hand_events.specs.declared.events.Header.{Header}
use Rattle.hand_events.specs.declared.events.BoardNumber.TheVariants as board
use Rattle.card_sets.specs.declared.streets.Street.{Street as StreetName}
use Rattle.betting_replay.specs.declared.boards.Board.{Board}
use Rattle.betting_replay.specs.declared.course.Course.{Course}
use Rattle.betting_replay.specs.declared.points.Point.{Point}
use Rattle.betting_replay.specs.declared.seats.Chips.{Chips}
use Rattle.betting_replay.specs.declared.seats.Acts.{Acts}
use Rattle.betting_replay.specs.declared.seats.Deals.{Deals}
use Rattle.betting_replay.specs.declared.seats.SeatDraws.{SeatDraws}
use Rattle.betting_replay.specs.declared.seats.LastDraw.{LastDraw}
use Rattle.betting_replay.specs.declared.seats.SeatState.{SeatState}
use Rattle.card_sets.specs.Cards.{union}
use Rattle.betting_replay.specs.Boards.{up_to, shared_by, second_by}
use Rattle.betting_replay.specs.Known.{Holding, final_by, known_by}

-- a table, which clauses see of a replay
pub record ReplayState : Type 0 where
  pub header : Header
  -- bit s for seat s
  pub players : ℕ
  -- the state of each seat, by its number; number 0 is no seat: its cards are those of the board, or the first board if
  -- there are two
  pub seats : List SeatState
  -- all cards that have a place
  pub named : List ℕ
  -- the cards that were discarded face up and weren't named again
  pub thrown : List ℕ
  -- the cards that came to the board on each street, to the first board if there are two; and to the second
  pub first_board : Board
  pub second_board : Board
  -- the seat of the button, or 0 if there is none
  pub button : ℕ
  -- how far the hand has come
  pub course : Course
  -- the first moment that was an all-in point
  pub point : Option Point

abbrev pub no_chips : Chips
no_chips = record { seated = false; stack = 0; paid = 0; dead = 0; live = 0 }

abbrev pub no_acts : Acts
no_acts = record { folded = false; acted = false; brought_in = false }

abbrev pub no_deals : Deals
no_deals = record { first = []; fourth = []; fifth = []; sixth = []; up = []; given = []; down = false }

abbrev pub no_draws : SeatDraws
no_draws = record { hidden = false; pat = false; five = false }

abbrev pub no_last_draw : LastDraw
no_last_draw = record { held = []; hidden_before = false; thrown = []; hidden = false; pat = false; five = false }

-- a seat that no event was about
abbrev pub no_seat : SeatState
no_seat = record {
  chips = no_chips;
  acts = no_acts;
  own = [];
  dealt = [];
  held = [];
  shown = None;
  deals = no_deals;
  seven_shown = None;
  draws = no_draws;
  last_draw = no_last_draw;
}

-- a hand before its first event
abbrev pub no_course : Course
no_course = record {
  street = None;
  opened = false;
  last_begun = false;
  small_posted = false;
  last_actor = None;
  marker = board.Only;
  showdowns = record { plain = false; first = false; second = false };
  split_from = None;
  second_street = None;
}

-- the state of a seat of the table
abbrev pub seat_at : ReplayState → ℕ → SeatState
seat_at t p = slice_index_or t.seats p no_seat

abbrev pub chips_at : ReplayState → ℕ → Chips
chips_at t p = (seat_at t p).chips

abbrev pub acts_at : ReplayState → ℕ → Acts
acts_at t p = (seat_at t p).acts

abbrev pub own_at : ReplayState → ℕ → List ℕ
own_at t p = (seat_at t p).own

abbrev pub dealt_at : ReplayState → ℕ → List ℕ
dealt_at t p = (seat_at t p).dealt

abbrev pub held_at : ReplayState → ℕ → List ℕ
held_at t p = (seat_at t p).held

abbrev pub shown_at : ReplayState → ℕ → Option (List ℕ)
shown_at t p = (seat_at t p).shown

abbrev pub deals_at : ReplayState → ℕ → Deals
deals_at t p = (seat_at t p).deals

abbrev pub row_at : ReplayState → ℕ → Option (List ℕ)
row_at t p = (seat_at t p).seven_shown

abbrev pub draws_at : ReplayState → ℕ → SeatDraws
draws_at t p = (seat_at t p).draws

abbrev pub last_draw_at : ReplayState → ℕ → LastDraw
last_draw_at t p = (seat_at t p).last_draw

-- the board's cards of the streets up to one
abbrev pub board_at : ReplayState → StreetName → List ℕ
board_at t street = up_to street t.first_board.flop t.first_board.turn t.first_board.river

-- whether the hand is run twice, and the cards of the second board
abbrev pub is_twice : ReplayState → Bool
is_twice t = is_some t.course.split_from

abbrev pub second_board_at : ReplayState → Option (List ℕ)
second_board_at t =
    second_by t.course.second_street
    (shared_by t.course.split_from t.first_board.flop t.first_board.turn t.first_board.river)
    (union (union t.second_board.flop t.second_board.turn) t.second_board.river)

-- what the text says of the cards of a seat in this state, given the cards discarded face up
abbrev pub holding_by : SeatState → List ℕ → Holding
holding_by s thrown = record {
  own = s.own;
  dealt = s.dealt;
  held = s.held;
  shown = s.shown;
  deals = s.deals;
  row = s.seven_shown;
  draws = s.draws;
  last = s.last_draw;
  thrown = thrown;
}

-- what the text says of the cards of a seat of the table
abbrev pub holding_at : ReplayState → ℕ → Holding
holding_at t p = record {
  own = own_at t p;
  dealt = dealt_at t p;
  held = held_at t p;
  shown = shown_at t p;
  deals = deals_at t p;
  row = row_at t p;
  draws = draws_at t p;
  last = last_draw_at t p;
  thrown = t.thrown;
}

-- a seat's final cards, and its cards on a street
unfoldable pub final_at : ReplayState → ℕ → Option (List ℕ)
final_at t p = final_by t.header.game (holding_at t p)

unfoldable pub known_at : ReplayState → ℕ → StreetName → Option (List ℕ)
known_at t p street = known_by t.header.game (holding_at t p) street
