-- What is known at the all-in of an accepted hand.
use Rattle.std.specs.Prelude.{◌≡◌, ◌<◌, ℕ, true, false, List, [], Some, slice_index_or}
use Rattle.card_sets.specs.Cards.{has_card}
use Rattle.hand_events.specs.declared.events.Header.{Header}
use Rattle.hand_events.specs.declared.events.Event.{Event}
use Rattle.card_sets.specs.declared.streets.Street.{Street}
use Rattle.betting_replay.specs.Boards.{board_up_to, second_board}
use Rattle.betting_replay.specs.CardLaws.{Among}
use Rattle.betting_replay.specs.Known.{cards_at}
use Rattle.betting_replay.specs.Places.{owned}
use Rattle.betting_replay.specs.TableAfter.{dead_cards}
use Rattle.showdown_tally.specs.declared.table.Table.{Table}

-- a hand is what its seat has on the street, by the whole text, and its cards belong to the seat
pub record IsHandOf (g : Header) (h : List Event) (street : Street) (seat : ℕ) (hand : List ℕ) : Type 0 where
  pub cards : cards_at g h seat street ≡ Some hand
  pub own : Among hand (owned g.game h seat)

-- a card is in no hand of a table, and isn't dead
pub record IsStillHidden (table : Table) (card : ℕ) : Type 0 where
  pub hands : (i : ℕ) → i < table.known.count → has_card (slice_index_or table.known.hands i []) card ≡ false
  pub dead : has_card table.known.dead card ≡ false

-- each hand is that of its seat, the board is that of the streets up to the point, and no card of a later street is in a hand or dead,
-- and none of a second board
pub record KnowsCards (g : Header) (players : ℕ) (h : List Event) (street : Street) (seats : List ℕ) (table : Table) : Type 0 where
  pub hands : (i : ℕ) → i < table.known.count → IsHandOf g h street (slice_index_or seats i 0) (slice_index_or table.known.hands i [])
  pub board : table.known.board ≡ board_up_to h street
  pub dead : table.known.dead ≡ dead_cards g players h
  pub later : (card : ℕ) → has_card (owned g.game h 0) card ≡ true → has_card (board_up_to h street) card ≡ false → IsStillHidden table card
  pub second : (second : List ℕ) → second_board h ≡ Some second → (card : ℕ) → has_card second card ≡ true → IsStillHidden table card
