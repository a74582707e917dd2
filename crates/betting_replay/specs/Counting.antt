-- The effect of an allowed event on a table.
use Rattle.std.specs.Prelude.{ℕ, ◌+◌, ◌-◌, ◌||◌, Bool, true, false, [], ◌∷◌, map, Option, Some, None, slice_set}
use Rattle.card_sets.specs.declared.games.Game.{Game}
use Rattle.card_sets.specs.declared.streets.Street.{Street as StreetName}
use Rattle.card_sets.specs.Cards.{union, minus}
use Rattle.card_sets.specs.Streets.{is_last}
use Rattle.hand_events.specs.declared.events.Event.{Event}
use Rattle.hand_events.specs.declared.events.Event.TheVariants.{Post, Deal, Street, Act, Show, SeatCards, Discard, Pat}
use Rattle.hand_events.specs.declared.events.BoardNumber.TheVariants as board
use Rattle.betting_replay.specs.declared.course.Course.{Course}
use Rattle.betting_replay.specs.declared.points.Showdowns.{Showdowns}
use Rattle.betting_replay.specs.declared.seats.Chips.{Chips}
use Rattle.betting_replay.specs.declared.seats.Acts.{Acts}
use Rattle.betting_replay.specs.declared.seats.SeatState.{SeatState}
use Rattle.betting_replay.specs.Events.{seat_of, button_after, bought, returned, live_in, dead_in, ante_in, put_in, brings_in, folds, is_act, is_seat_line, is_small, cards_named}
use Rattle.betting_replay.specs.Streets.{begins, begins_on, shows_on, is_later, is_first}
use Rattle.betting_replay.specs.Table.{ReplayState, seat_at}
use Rattle.betting_replay.specs.Places.{cards_given, thrown_by, with_given}
use Rattle.betting_replay.specs.Boards.{board_after, second_after}
use Rattle.betting_replay.specs.Seats.{or_else}
use Rattle.betting_replay.specs.Sums.{is_last_of}
use Rattle.betting_replay.specs.Hands.{dealt_by, held_after, shown_after, row_by}
use Rattle.betting_replay.specs.Dealing.{deals_after, draws_after, last_draw_after}
use Rattle.betting_replay.specs.AllIn.{point_now}

-- the chips of a seat after an event about it
abbrev pub chips_after : ℕ → Bool → Event → Chips → Chips
chips_after big posted e c = record {
  seated = is_seat_line e || c.seated;
  stack = c.stack + (bought e + returned e) - put_in big posted c.live e;
  paid = c.paid + (ante_in e + live_in big posted c.live e) - returned e;
  dead = c.dead + dead_in big posted e;
  live = c.live + live_in big posted c.live e - returned e;
}

-- the acts of the player of a seat after an event about it
abbrev pub acts_after : Event → Acts → Acts
acts_after e a = record { folded = folds e || a.folded; acted = is_act e || a.acted; brought_in = brings_in e || a.brought_in }

-- a seat after an event about it, as to its chips and acts
abbrev pub seat_paid : ℕ → Bool → Event → SeatState → SeatState
seat_paid big posted e s = record s { chips = chips_after big posted e s.chips; acts = acts_after e s.acts }

-- and as to its cards and draws, on a street, by whether the last street has begun, with the event or before it
abbrev pub seat_dealt : Game → Option StreetName → Bool → Event → SeatState → SeatState
seat_dealt game now late e s = record s {
  own = with_given game e (cards_given e) s.own;
  dealt = union s.dealt (dealt_by e);
  held = held_after e s.held;
  shown = shown_after game e s.shown;
  deals = deals_after now e s.deals;
  seven_shown = or_else (row_by e) s.seven_shown;
  draws = draws_after e s.draws;
  last_draw = last_draw_after late e s.last_draw;
}

-- only these events give a card a place, take one away, or say how a player draws; of acts only those that show cards
abbrev pub moves_cards : Event → Bool
moves_cards (Deal seat cards drawn) = true
moves_cards (Street street number cards) = true
moves_cards (Act seat act all_in []) = false
moves_cards (Act seat act all_in (card ∷ cards)) = true
moves_cards (Show seat cards) = true
moves_cards (SeatCards seat cards) = true
moves_cards (Discard seat count cards) = true
moves_cards (Pat seat) = true
moves_cards _ = false

-- the showdown markers so far, after an event
abbrev pub showdowns_after : Event → Showdowns → Showdowns
showdowns_after e s = record { plain = shows_on board.Only e || s.plain; first = shows_on board.First e || s.first; second = shows_on board.Second e || s.second }

-- how far the hand has come after an event, without the street that it begins: markers, small blinds, and acts count
abbrev pub course_after : Event → Course → Course
course_after (Street marker number cards) c = record c {
  marker = number;
  showdowns = showdowns_after (Street marker number cards) c.showdowns;
  split_from = or_else c.split_from (begins_on board.First (Street marker number cards));
  second_street = or_else (begins_on board.Second (Street marker number cards)) c.second_street;
}
course_after (Post seat kind units all_in) c = record c { small_posted = is_small kind || c.small_posted }
course_after (Act seat act all_in shown) c = record c { last_actor = Some seat }
course_after _ c = c

-- the last street has begun, before an event or with it
abbrev pub begins_last : ReplayState → Event → Bool
begins_last t e = is_last_of t.header.game (begins t.header.game t.course.street e) || t.course.last_begun

-- the event is applied to the chips and acts of its seat
unfoldable pub paid_after : ReplayState → Event → ReplayState
paid_after t e = record t { seats = slice_set t.seats (seat_of e) (seat_paid t.header.big t.course.small_posted e (seat_at t (seat_of e))) }

-- to the cards of its seat, and to the open cards
unfoldable pub dealt_after : ReplayState → Event → ReplayState
dealt_after t e = record t {
  seats = slice_set t.seats (seat_of e) (seat_dealt t.header.game t.course.street (begins_last t e) e (seat_at t (seat_of e)));
  named = with_given t.header.game e (cards_named e) t.named;
  thrown = union (minus t.thrown (cards_named e)) (thrown_by e);
  first_board = board_after e t.first_board;
  second_board = second_after e t.second_board;
}

abbrev pub dealt_if : Bool → Event → ReplayState → ReplayState
dealt_if true e t = dealt_after t e
dealt_if false e t = t

-- and to the button and the course of the hand
unfoldable pub noted_after : ReplayState → Event → ReplayState
noted_after t e = record t { button = button_after e t.button; course = course_after e t.course }

-- the event is applied to all of these
unfoldable pub counted : ReplayState → Event → ReplayState
counted t e = noted_after (dealt_if (moves_cards e) e (paid_after t e)) e

-- a street begins; after the first, live sums and acts are reset
abbrev pub cleared_chips : Chips → Chips
cleared_chips c = record { seated = c.seated; stack = c.stack; paid = c.paid; dead = c.dead; live = 0 }

abbrev pub cleared_acts : Acts → Acts
cleared_acts a = record { folded = a.folded; acted = false; brought_in = false }

abbrev pub cleared_seat : SeatState → SeatState
cleared_seat s = record s { chips = cleared_chips s.chips; acts = cleared_acts s.acts }

abbrev pub cleared : ReplayState → ReplayState
cleared t = record t { seats = map cleared_seat t.seats; course = record t.course { last_actor = None } }

abbrev pub on_street : ReplayState → StreetName → ReplayState
on_street t s = record t { course = record t.course { street = Some s; opened = is_first (Some s) || t.course.opened; last_begun = is_last t.header.game s || t.course.last_begun } }

abbrev pub cleared_if : Bool → ReplayState → ReplayState
cleared_if true t = cleared t
cleared_if false t = t

abbrev pub begun_with : Option StreetName → ReplayState → ReplayState
begun_with None t = t
begun_with (Some s) t = cleared_if (is_later s) (on_street t s)

unfoldable pub begun : ReplayState → Event → ReplayState
begun t e = begun_with (begins t.header.game t.course.street e) t

-- the first all-in point is kept
unfoldable pub pointed : ReplayState → ReplayState
pointed t = record t { point = or_else t.point (point_now t) }

-- the table after an allowed event: it is applied, and its street begins, if it begins one; then the moment may be the
-- all-in point
abbrev pub after : ReplayState → Event → ReplayState
after t e = pointed (begun (counted t e) e)
