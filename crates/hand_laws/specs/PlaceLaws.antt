-- Where a card that was thrown away may not come again, it belongs to the place of the first event that named it, and stays thrown away. Where it may,
-- it belongs to nobody until an event names it.
use Rattle.std.specs.Prelude.{◌≡◌, ℕ, true, false, List, [], ◌∷◌, Option, Some, None, if◌then◌else◌}
use Rattle.card_sets.specs.Cards.{has_card, union}
use Rattle.card_sets.specs.Games.{may_come_again}
use Rattle.hand_events.specs.declared.events.Header.{Header}
use Rattle.hand_events.specs.declared.events.Event.{Event}
use Rattle.betting_replay.specs.Accepted.{IsAccepted}
use Rattle.betting_replay.specs.Events.{cards_named}
use Rattle.betting_replay.specs.Places.{place_of, place, thrown, thrown_by, lost_by}
use Rattle.betting_replay.specs.Seats.{or_else}

-- the place of the first event that named a card
abbrev pub first_place : List Event → ℕ → Option ℕ
first_place [] card = None
first_place (e ∷ h) card = or_else (first_place h card) (if has_card (cards_named e) card then Some (place_of e) else None)

-- all cards that were ever thrown away face up
abbrev pub ever_thrown : List Event → List ℕ
ever_thrown [] = []
ever_thrown (e ∷ h) = union (ever_thrown h) (thrown_by e)

-- the events after the last that threw a card away, where it may come again, and else all
abbrev pub since : Header → List Event → ℕ → List Event
since header [] card = []
since header (e ∷ h) card = if has_card (lost_by header.game e) card then [] else e ∷ since header h card

pub record PlacesCards : Type 0 where
  -- a card's place is that of the first event that names it after the last that threw it away
  pub behind : (header : Header) (h : List Event) (card : ℕ)
      → place header.game h card ≡ first_place (since header h card) card
  -- where no card may come again these are all events, and after accepted ones every card that was thrown away stays so
  pub first : (header : Header) (h : List Event) (card : ℕ) → may_come_again header.game ≡ false
      → place header.game h card ≡ first_place h card
  pub stays : (header : Header) (players : ℕ) (h : List Event) → IsAccepted header players h
      → may_come_again header.game ≡ false → thrown h ≡ ever_thrown h
  -- where a card may come again, one that was thrown away and that no event has named since belongs to nobody
  pub nobody : (header : Header) (players : ℕ) (h : List Event) (card : ℕ)
      → IsAccepted header players h → may_come_again header.game ≡ true
      → has_card (thrown h) card ≡ true → place header.game h card ≡ None
