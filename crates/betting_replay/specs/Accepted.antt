-- Hands in which the rules allowed each event.
use Rattle.std.specs.Prelude.{◌≡◌, ◌<◌, ℕ, ◌==◌, ◌&&◌, if◌then◌else◌, List, [], ◌∷◌, None}
use Rattle.hand_events.specs.declared.events.Header.{Header}
use Rattle.hand_events.specs.declared.events.Event.{Event}
use Rattle.card_sets.specs.declared.streets.Street.{Street as StreetName}
use Rattle.betting_replay.specs.Events.{seat_of, is_seat_line, bought}
use Rattle.betting_replay.specs.Limits.{Fits}
use Rattle.betting_replay.specs.TableAfter.{table_of, chips_at, acts_at, own_at, final_at, known_at, dead_at, chips_of, acts_of, dead_cards}
use Rattle.betting_replay.specs.Places.{owned}
use Rattle.betting_replay.specs.Known.{final_cards, cards_at}
use Rattle.betting_replay.specs.Faults.{legal}

-- each event, the latest first, has seats and amounts in range, and no fault after the events
-- before it
abbrev pub IsAccepted : Header → ℕ → List Event → Type 0
IsAccepted header players [] = Unit {0}
IsAccepted header players (e ∷ h) = Fits e × (legal header players h e ≡ None) × IsAccepted header players h

-- the units of p's seat line, or 0 if p has none
abbrev pub opening : List Event → ℕ → ℕ
opening [] p = 0
opening (e ∷ h) p = if (seat_of e == p) && is_seat_line e then bought e else opening h p

-- at a seat a table has what the events make of the seat
pub record ShowsSeat (header : Header) (players : ℕ) (h : List Event) (p : ℕ) : Type 0 where
  pub chips : chips_at (table_of header players h) p ≡ chips_of header h p
  pub acts : acts_at (table_of header players h) p ≡ acts_of header h p
  pub own : own_at (table_of header players h) p ≡ owned header.game h p
  pub final : final_at (table_of header players h) p ≡ final_cards header h p
  pub known : (street : StreetName)
      → known_at (table_of header players h) p street ≡ cards_at header h p street

abbrev pub ShowsSeats : Type 0
ShowsSeats = (header : Header) (players : ℕ) (h : List Event) (p : ℕ) → p < 11
    → ShowsSeat header players h p

-- the dead cards of a table are those of the events
abbrev pub ShowsDead : Type 0
ShowsDead = (header : Header) (players : ℕ) (h : List Event)
    → dead_at (table_of header players h) ≡ dead_cards header players h
