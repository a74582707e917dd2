-- The streets that begin after the all-in point.
use Rattle.std.specs.Prelude.{ℕ, ◌&&◌, not, Bool, false, if◌then◌else◌, List, [], ◌∷◌, ◌++◌, Option, Some, None, is_some}
use Rattle.card_sets.specs.declared.games.Game.{Game}
use Rattle.card_sets.specs.declared.streets.Street.{Street as StreetName}
use Rattle.hand_events.specs.declared.events.Header.{Header}
use Rattle.hand_events.specs.declared.events.Event.{Event}
use Rattle.hand_events.specs.declared.events.Event.TheVariants.{Street}
use Rattle.betting_replay.specs.Boards.{is_second}
use Rattle.betting_replay.specs.Streets.{begins, is_later}
use Rattle.betting_replay.specs.Turns.{any_shown}
use Rattle.betting_replay.specs.TableAfter.{ReplayState, table_of}

-- the event is a marker of a second board
abbrev pub is_of_second : Event → Bool
is_of_second (Street marker number cards) = is_second number
is_of_second _ = false

-- a street with betting that isn't the first
abbrev pub if_later : Option StreetName → Option StreetName
if_later None = None
if_later (Some street) = if is_later street then Some street else None

-- the street after the first that an event begins; of two boards the first one counts
abbrev pub later_by : Game → Option StreetName → Event → Option StreetName
later_by game street e = if is_of_second e then None else if_later (begins game street e)

-- the street after the first that an event begins after the all-in point and before any showdown marker
abbrev pub later_begun : ReplayState → Event → Option StreetName
later_begun t e = if is_some t.point && not (any_shown t.course.showdowns) then later_by t.header.game t.course.street e else None

abbrev pub listed : Option StreetName → List StreetName
listed None = []
listed (Some street) = street ∷ []

-- all streets that begin in this way with the events, in their order: the latest event is the first of its
-- list, and its street is the last
abbrev pub later_streets : Header → ℕ → List Event → List StreetName
later_streets header players [] = []
later_streets header players (e ∷ h) = later_streets header players h ++ listed (later_begun (table_of header players h) e)
