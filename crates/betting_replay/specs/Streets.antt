-- The street that an event begins, and its board. Source: the usual rules of poker.
use Rattle.std.specs.Prelude.{Bool, true, false, ◌&&◌, not, if◌then◌else◌, Option, Some, None}
use Rattle.card_sets.specs.declared.games.Game.{Game}
use Rattle.hand_events.specs.declared.events.BoardNumber.{BoardNumber}
use Rattle.hand_events.specs.declared.events.BoardNumber.TheVariants as board
use Rattle.hand_events.specs.declared.events.Event.{Event}
use Rattle.hand_events.specs.declared.events.Event.TheVariants.{Street, Discard, Pat}
use Rattle.card_sets.specs.declared.streets.Street.{Street as StreetName}
use Rattle.card_sets.specs.declared.streets.Street.TheVariants.{First, Draw, ShowDown, Summary}
use Rattle.card_sets.specs.Streets.{is_street, is_draw_street, next_street}

-- a street is the next one, or the street of the hand
abbrev pub same_street : StreetName → Option StreetName → Bool
same_street street None = false
same_street street (Some other) = is_street street other

-- the hand is on a street with a draw
abbrev pub is_drawing : Option StreetName → Bool
is_drawing None = false
is_drawing (Some street) = is_draw_street street

abbrev pub is_showdown : StreetName → Bool
is_showdown ShowDown = true
is_showdown _ = false

-- a showdown or the summary
abbrev pub is_end : StreetName → Bool
is_end ShowDown = true
is_end Summary = true
is_end _ = false

abbrev pub is_first : Option StreetName → Bool
is_first (Some First) = true
is_first _ = false

-- a street with betting that isn't the first; live sums are reset there
abbrev pub is_later : StreetName → Bool
is_later First = false
is_later ShowDown = false
is_later Summary = false
is_later _ = true

-- in a game with one draw the first discard or stand-pat begins the draw, if the draw is next and no marker began it
abbrev pub begun_by_drawing : Game → Option StreetName → Option StreetName
begun_by_drawing game street = if same_street Draw (next_street game street) then Some Draw else None

-- the street that an event begins
abbrev pub begins : Game → Option StreetName → Event → Option StreetName
begins game street (Street marker number cards) = Some marker
begins game street (Discard seat count cards) = begun_by_drawing game street
begins game street (Pat seat) = begun_by_drawing game street
begins game street _ = None

abbrev pub begins_later_by : Option StreetName → Bool
begins_later_by None = false
begins_later_by (Some marker) = is_later marker

-- a street after the first begins with the event
abbrev pub begins_later : Game → Option StreetName → Event → Bool
begins_later game street e = begins_later_by (begins game street e)

-- whether two markers are of the same board
abbrev pub is_number : BoardNumber → BoardNumber → Bool
is_number board.Only board.Only = true
is_number board.First board.First = true
is_number board.Second board.Second = true
is_number _ _ = false

-- the street that an event begins on a board: none if it isn't a marker of that board, or is one of a showdown or the
-- summary
abbrev pub begins_on : BoardNumber → Event → Option StreetName
begins_on number (Street marker other cards) = if is_number number other && not (is_end marker) then Some marker else None
begins_on number _ = None

-- the event is a showdown marker of a board
abbrev pub shows_on : BoardNumber → Event → Bool
shows_on number (Street marker other cards) = is_number number other && is_showdown marker
shows_on number _ = false

-- the board of the last marker after an event, given the board before it
abbrev pub marker_after : Event → BoardNumber → BoardNumber
marker_after (Street marker number cards) before = number
marker_after _ before = before
