-- The table after the events of a hand.
use Rattle.std.specs.Prelude.{◌≡◌, ℕ, List, [], ◌∷◌, Option, None}
use Rattle.hand_events.specs.declared.events.Header.{Header}
use Rattle.hand_events.specs.declared.events.Event.{Event}
use Rattle.betting_replay.specs.declared.course.Course.{Course}
use Rattle.betting_replay.specs.declared.points.Point.{Point}
use Rattle.betting_replay.specs.declared.seats.Chips.{Chips}
use Rattle.betting_replay.specs.declared.seats.Acts.{Acts}
use Rattle.betting_replay.specs.declared.seats.SeatState.{SeatState}
use Rattle.betting_replay.specs.Seats.{by_seat, or_else}
use Rattle.betting_replay.specs.Sums.{street, button, opened, last_begun, marker_board, showdowns_of, twice_from, second_street, small_posted, seated, live, dead as dead_chips, paid, stack, folded, acted, brought_in, last_actor}
use Rattle.betting_replay.specs.Places.{owned, named, thrown}
use Rattle.betting_replay.specs.Boards.{board_of, second_of}
use Rattle.betting_replay.specs.Hands.{dealt, held, shown, row}
use Rattle.betting_replay.specs.Dealing.{deals_of, draws_of, last_draw_of}
use Rattle.betting_replay.specs.AllIn.{point_now, dead_by}
pub use Rattle.betting_replay.specs.Table.{ReplayState, no_chips, no_acts, no_deals, no_draws, no_last_draw, no_seat, seat_at, chips_at, acts_at, own_at, dealt_at, held_at, shown_at, deals_at, row_at, draws_at, last_draw_at, board_at, is_twice, second_board_at, holding_at, final_at, known_at}
pub use Rattle.betting_replay.specs.AllIn.{dead_at}

-- the effect of the events so far on a seat
abbrev pub chips_of : Header → List Event → ℕ → Chips
chips_of header h p = record { seated = seated h p; stack = stack header h p; paid = paid header h p; dead = dead_chips header h p; live = live header h p }

abbrev pub acts_of : Header → List Event → ℕ → Acts
acts_of header h p = record { folded = folded h p; acted = acted header h p; brought_in = brought_in header h p }

abbrev pub seat_state : Header → List Event → ℕ → SeatState
seat_state header h p = record {
  chips = chips_of header h p;
  acts = acts_of header h p;
  own = owned header.game h p;
  dealt = dealt h p;
  held = held h p;
  shown = shown header h p;
  deals = deals_of header h p;
  seven_shown = row h p;
  draws = draws_of h p;
  last_draw = last_draw_of header h p;
}

-- how far the hand has come by these events
abbrev pub course_of : Header → List Event → Course
course_of header h = record {
  street = street header h;
  opened = opened header h;
  last_begun = last_begun header h;
  small_posted = small_posted h;
  last_actor = last_actor header h;
  marker = marker_board h;
  showdowns = showdowns_of h;
  split_from = twice_from h;
  second_street = second_street h;
}

-- the table after the events so far, given the all-in point
abbrev pub table_with : Header → ℕ → List Event → Option Point → ReplayState
table_with header players h found = record {
  header = header;
  players = players;
  seats = by_seat (seat_state header h);
  named = named header.game h;
  thrown = thrown h;
  first_board = board_of h;
  second_board = second_of h;
  button = button h;
  course = course_of header h;
  point = found;
}

-- the all-in point: the first moment that is one, by the table of that moment without a point
unfoldable pub point : Header → ℕ → List Event → Option Point
point header players [] = None
point header players (e ∷ h) = or_else (point header players h) (point_now (table_with header players (e ∷ h) None))

-- the table after the events so far
abbrev pub table_of : Header → ℕ → List Event → ReplayState
table_of header players h = table_with header players h (point header players h)

-- the cards that are dead at the point, by all events so far
abbrev pub dead_cards : Header → ℕ → List Event → List ℕ
dead_cards header players h = dead_by players (point header players h) (owned header.game h) (thrown h)

-- a table represents a hand so far: its header, its players, and its events, the latest first
pub record StandsFor (t : ReplayState) (header : Header) (players : ℕ) (h : List Event) : Type 0 where
  pub is : t ≡ table_of header players h
