-- The all-in of a hand.
use Rattle.std.specs.Prelude.{ℕ, if◌then◌else◌, List, [], map, length, unwrap_or, slice_index_or, Option, Some, None, is_some}
use Rattle.std.specs.List.{list_all}
use Rattle.card_sets.specs.PlayerSets.{seats_in}
use Rattle.hand_events.specs.declared.events.Header.{Header}
use Rattle.hand_events.specs.declared.events.Event.{Event}
use Rattle.card_sets.specs.declared.streets.Street.{Street}
use Rattle.card_sets.specs.declared.games.Game.{Game}
use Rattle.pot_layers.specs.declared.paid.Pot.{Pot}
use Rattle.pot_layers.specs.Pots.{pots}
use Rattle.betting_replay.specs.AllIn.{point_street, point_contenders, dead_at}
use Rattle.betting_replay.specs.Seats.{by_seat}
use Rattle.betting_replay.specs.Table.{ReplayState, board_at, known_at}
use Rattle.betting_replay.specs.TableAfter.{table_of}
use Rattle.showdown_tally.specs.declared.table.Table.{Table}
use Rattle.hand_audit.specs.Showings.{paid_in}
use Rattle.hand_audit.specs.KnownTables.{Bare, ten, places_in, table_from}
use Rattle.hand_audit.specs.declared.at_point.AtPoint.{AtPoint}
use Rattle.hand_verdict.specs.declared.verdicts.AllIn.{AllIn}
use Rattle.hand_verdict.specs.declared.verdicts.AllIn.TheVariants.{None as NoAllIn, Unknown, Known}

-- a seat's cards, and none where they are unknown
abbrev pub cards_or_none : List (Option (List ℕ)) → ℕ → List ℕ
cards_or_none cards p = unwrap_or (slice_index_or cards p None) []

-- what a table has of what is known at a point, and of the players who may win each pot: a hand for each contender, by rising seat
unfoldable pub bare_of : AtPoint → List ℕ → Bare
bare_of point pots = record {
  game = point.game;
  count = length (seats_in point.contenders);
  hands = ten [] (map (cards_or_none point.cards) (seats_in point.contenders));
  board = point.board;
  dead = point.dead;
  pots = length pots;
  eligible = ten 0 (map (places_in (seats_in point.contenders)) pots);
}

abbrev pub known_with : Street → List ℕ → Option Table → AllIn
known_with street seats None = Unknown
known_with street seats (Some table) = Known street (ten 0 seats) table

-- the all-in: unknown where a contender's cards aren't known
unfoldable pub all_in_at : AtPoint → List ℕ → AllIn
all_in_at point pots =
    if list_all (λ p. is_some (slice_index_or point.cards p None)) (seats_in point.contenders)
    then known_with point.street (seats_in point.contenders) (table_from (bare_of point pots))
    else Unknown

-- what a replay tells of a point on a street: the contenders there, the cards of each seat on that street, the board of the streets
-- up to it, and the dead cards
unfoldable pub known_there : Game → ReplayState → Street → AtPoint
known_there game t street = record {
  game = game;
  street = street;
  contenders = point_contenders t.point;
  cards = by_seat (λ p. known_at t p street);
  board = board_at t street;
  dead = dead_at t;
}

-- the players who may win each of some pots
abbrev pub eligible_in : List Pot → List ℕ
eligible_in all = map (λ pot. pot.eligible) all

-- the all-in by a replay's point; its pots are those of the whole hand
abbrev pub all_in_on : Game → ReplayState → Option Street → AllIn
all_in_on game t None = NoAllIn
all_in_on game t (Some street) = all_in_at (known_there game t street) (eligible_in (pots (paid_in t)))

unfoldable pub all_in_by : Game → ReplayState → AllIn
all_in_by game t = all_in_on game t (point_street t.point)

-- the all-in of a hand
abbrev pub all_in_of : Header → ℕ → List Event → AllIn
all_in_of header players h = all_in_by header.game (table_of header players h)
