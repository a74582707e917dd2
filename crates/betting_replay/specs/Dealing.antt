-- The cards dealt to a seat, street by street, and how its player drew.
use Rattle.std.specs.Prelude.{ℕ, ◌==◌, ◌&&◌, ◌||◌, not, Bool, true, false, if◌then◌else◌, List, [], ◌∷◌, length, Option, None, nat_lt}
use Rattle.card_sets.specs.Cards.{union}
use Rattle.hand_events.specs.declared.events.Header.{Header}
use Rattle.hand_events.specs.declared.events.Event.{Event}
use Rattle.hand_events.specs.declared.events.Event.TheVariants.{Deal, Discard, Pat}
use Rattle.card_sets.specs.declared.streets.Street.{Street as StreetName}
use Rattle.card_sets.specs.declared.streets.Street.TheVariants.{First, Fourth, Fifth, Sixth}
use Rattle.betting_replay.specs.declared.seats.Deals.{Deals}
use Rattle.betting_replay.specs.declared.seats.SeatDraws.{SeatDraws}
use Rattle.betting_replay.specs.declared.seats.LastDraw.{LastDraw}
use Rattle.betting_replay.specs.Events.{seat_of}
use Rattle.betting_replay.specs.Streets.{same_street}
use Rattle.betting_replay.specs.Sums.{street, last_begun}
use Rattle.betting_replay.specs.Hands.{dealt_by, held_after}
use Rattle.betting_replay.specs.Places.{thrown_by}

-- a deal counts for the street of the hand, and before the first street for that street
abbrev pub counts_on : StreetName → Option StreetName → Bool
counts_on First None = true
counts_on place now = same_street place now

-- the cards that an event deals on a street
abbrev pub dealt_on : StreetName → Option StreetName → Event → List ℕ
dealt_on place now e = if counts_on place now then dealt_by e else []

-- a card dealt alone, which is face up
abbrev pub up_by : Event → List ℕ
up_by e = if length (dealt_by e) == 1 then dealt_by e else []

-- the cards of a deal that aren't drawn
abbrev pub given_by : Event → List ℕ
given_by (Deal seat cards drawn) = if drawn then [] else cards
given_by _ = []

-- three cards are dealt at once
abbrev pub deals_three : Event → Bool
deals_three e = length (dealt_by e) == 3

-- a discard that doesn't show all its cards, a stand-pat, and a discard of five
abbrev pub hides : Event → Bool
hides (Discard seat count cards) = nat_lt (length cards) count
hides _ = false

abbrev pub stands_pat : Event → Bool
stands_pat (Pat seat) = true
stands_pat _ = false

abbrev pub discards_five : Event → Bool
discards_five (Discard seat count cards) = count == 5
discards_five _ = false

-- all cards that the events about a seat give in some way, and whether any of the events passes a
-- test
abbrev pub gathered : (Event → List ℕ) → List Event → ℕ → List ℕ
gathered by [] p = []
gathered by (e ∷ h) p = if seat_of e == p then union (gathered by h p) (by e) else gathered by h p

abbrev pub marked : (Event → Bool) → List Event → ℕ → Bool
marked by [] p = false
marked by (e ∷ h) p = ((seat_of e == p) && by e) || marked by h p

-- all cards dealt to a seat on a street
abbrev pub dealt_then : Header → StreetName → List Event → ℕ → List ℕ
dealt_then header place [] p = []
dealt_then header place (e ∷ h) p = if seat_of e == p then union (dealt_then header place h p) (dealt_on place (street header h) e) else dealt_then header place h p

-- the cards dealt to a seat, and how its player drew
abbrev pub deals_of : Header → List Event → ℕ → Deals
deals_of header h p = record {
  first = dealt_then header First h p;
  fourth = dealt_then header Fourth h p;
  fifth = dealt_then header Fifth h p;
  sixth = dealt_then header Sixth h p;
  up = gathered up_by h p;
  given = gathered given_by h p;
  down = marked deals_three h p;
}

abbrev pub draws_of : List Event → ℕ → SeatDraws
draws_of h p = record { hidden = marked hides h p; pat = marked stands_pat h p; five = marked discards_five h p }

-- whether the last street has begun, before an event or with it
abbrev pub is_late : Header → List Event → Event → Bool
is_late header h e = last_begun header (e ∷ h)

-- the cards that a seat held by the text when the last street began
abbrev pub held_before : Header → List Event → ℕ → List ℕ
held_before header [] p = []
held_before header (e ∷ h) p = if (seat_of e == p) && not (is_late header h e) then held_after e (held_before header h p) else held_before header h p

-- all cards discarded face up since
abbrev pub thrown_late : Header → List Event → ℕ → List ℕ
thrown_late header [] p = []
thrown_late header (e ∷ h) p = if (seat_of e == p) && is_late header h e then union (thrown_late header h p) (thrown_by e) else thrown_late header h p

-- whether an event about the seat passed a test before the last street began, and since
abbrev pub marked_before : (Event → Bool) → Header → List Event → ℕ → Bool
marked_before by header [] p = false
marked_before by header (e ∷ h) p = ((seat_of e == p) && not (is_late header h e) && by e) || marked_before by header h p

abbrev pub marked_late : (Event → Bool) → Header → List Event → ℕ → Bool
marked_late by header [] p = false
marked_late by header (e ∷ h) p = ((seat_of e == p) && is_late header h e && by e) || marked_late by header h p

-- how the player drew on the last draw
abbrev pub last_draw_of : Header → List Event → ℕ → LastDraw
last_draw_of header h p = record {
  held = held_before header h p;
  hidden_before = marked_before hides header h p;
  thrown = thrown_late header h p;
  hidden = marked_late hides header h p;
  pat = marked_late stands_pat header h p;
  five = marked_late discards_five header h p;
}

-- the deals after one more event about the seat
abbrev pub deals_after : Option StreetName → Event → Deals → Deals
deals_after now e d = record {
  first = union d.first (dealt_on First now e);
  fourth = union d.fourth (dealt_on Fourth now e);
  fifth = union d.fifth (dealt_on Fifth now e);
  sixth = union d.sixth (dealt_on Sixth now e);
  up = union d.up (up_by e);
  given = union d.given (given_by e);
  down = deals_three e || d.down;
}

abbrev pub draws_after : Event → SeatDraws → SeatDraws
draws_after e d = record { hidden = hides e || d.hidden; pat = stands_pat e || d.pat; five = discards_five e || d.five }

-- and the last draw, by whether the last street has begun, with the event or before it
abbrev pub last_draw_after : Bool → Event → LastDraw → LastDraw
last_draw_after late e d = record {
  held = if late then d.held else held_after e d.held;
  hidden_before = (not late && hides e) || d.hidden_before;
  thrown = if late then union d.thrown (thrown_by e) else d.thrown;
  hidden = (late && hides e) || d.hidden;
  pat = (late && stands_pat e) || d.pat;
  five = (late && discards_five e) || d.five;
}
