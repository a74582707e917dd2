-- The events of the lines of a hand.
use Rattle.std.specs.Prelude.{ℕ, ◌==◌, Bool, false, if◌then◌else◌, List, [], ◌∷◌, ◌++◌, Option, Some, None, option_map, Result, Ok, Err}
use Rattle.std.specs.List.{list_any, slice_range}
use Rattle.card_sets.specs.PlayerSets.{players_where}
use Rattle.line_text.specs.Amounts.{number_of}
use Rattle.hand_events.specs.declared.events.Header.{Header}
use Rattle.hand_events.specs.declared.events.Event.{Event}
use Rattle.hand_events.specs.declared.events.Event.TheVariants.{Seat, Post, Deal, Street, Act, Discard, Pat}
use Rattle.card_sets.specs.declared.streets.Street.TheVariants.{First, Summary}
use Rattle.hand_events.specs.declared.events.Part.{Part}
use Rattle.hand_events.specs.declared.events.Part.TheVariants.{Preamble, Play, Summary as SummaryPart}
use Rattle.hand_events.specs.declared.events.TextFault.{TextFault}
use Rattle.history_text.specs.Lines.{line_event}
use Rattle.history_text.specs.Seats.{seat_digits}
use Rattle.betting_replay.specs.Places.{is_at}

-- the part of the next line, by the events so far, the latest first
abbrev pub part_after : Event → Part → Part
part_after (Street Summary number cards) part = SummaryPart
part_after (Street First number cards) Preamble = Play
part_after e part = part

abbrev pub part_of : List Event → Part
part_of [] = Preamble
part_of (e ∷ h) = part_after e (part_of h)

-- what the lines so far say: the names of the seat lines, in their order, and the events, the latest first
pub record SoFar : Type 0 where
  pub names : List (ℕ × List ℕ)
  pub events : List Event

abbrev pub nothing : SoFar
nothing = record { names = []; events = [] }

-- a seat line of the Preamble seats its name
abbrev pub named_by : Event → List ℕ → List (ℕ × List ℕ) → List (ℕ × List ℕ)
named_by (Seat seat units first end) line names = names ++ (seat, slice_range line first end) ∷ []
named_by e line names = names

abbrev pub with_event : List ℕ → Event → SoFar → SoFar
with_event line e so_far = record { names = named_by e line so_far.names; events = e ∷ so_far.events }

-- what the next line says
unfoldable pub read_at : Header → SoFar → List ℕ → Result Event TextFault
read_at header so_far line = line_event so_far.names header (part_of so_far.events) line

-- a line that can be read adds its event, another adds nothing
abbrev pub with_line_by : List ℕ → SoFar → Result Event TextFault → SoFar
with_line_by line so_far (Ok e) = with_event line e so_far
with_line_by line so_far (Err fault) = so_far

abbrev pub with_line : Header → SoFar → List ℕ → SoFar
with_line header so_far line = with_line_by line so_far (read_at header so_far line)

-- the number of a seat line, in form or not, a seat or not; none where the line is no seat line
unfoldable pub seat_number : List ℕ → Option ℕ
seat_number line = option_map (λ digits. number_of digits) (seat_digits line)

-- the same of a line of the Preamble; none in the other parts
abbrev pub seat_at : Part → List ℕ → Option ℕ
seat_at Preamble line = seat_number line
seat_at Play line = None
seat_at SummaryPart line = None

abbrev pub is_again : List ℕ → Option ℕ → Bool
is_again seats None = false
is_again seats (Some seat) = list_any (λ s. s == seat) seats

abbrev pub with_seat : List ℕ → Option ℕ → List ℕ
with_seat seats None = seats
with_seat seats (Some seat) = seats ++ seat ∷ []

-- the events of some lines that can be read, up to a second line of a number; these numbers had their lines before
abbrev pub read_events : Header → SoFar → List ℕ → List (List ℕ) → List Event
read_events header so_far seats [] = so_far.events
read_events header so_far seats (line ∷ lines) =
    let seat = seat_at (part_of so_far.events) line in
    if is_again seats seat then so_far.events else read_events header (with_line header so_far line) (with_seat seats seat) lines

-- the seat that an event makes a player
abbrev pub player_of : Event → Option ℕ
player_of (Post seat kind units all_in) = Some seat
player_of (Deal seat cards drawn) = Some seat
player_of (Act seat act all_in shown) = Some seat
player_of (Discard seat count cards) = Some seat
player_of (Pat seat) = Some seat
player_of _ = None

abbrev pub makes_player : ℕ → Event → Bool
makes_player p e = is_at p (player_of e)

-- the players: bit s for seat s
abbrev pub plays : List Event → ℕ → Bool
plays h p = list_any (makes_player p) h

abbrev pub players_in : List Event → ℕ
players_in h = players_where (plays h) 11

unfoldable pub players_of : Header → List (List ℕ) → ℕ
players_of header lines = players_in (read_events header nothing [] lines)
