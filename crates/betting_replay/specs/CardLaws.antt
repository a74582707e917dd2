-- The effect of accepted events on cards: each card has one place, the known cards of a player are theirs, and a board
-- has its cards.
use Rattle.std.specs.Prelude.{◌≡◌, ◌≤◌, ◌<◌, ℕ, ◌+◌, ◌==◌, ◌||◌, if◌then◌else◌, Bool, true, false, List, [], ◌∷◌, length, Option, Some, None, nat_lt}
use Rattle.card_sets.specs.declared.games.Game.{Game}
use Rattle.card_sets.specs.Cards.{has_card, IsCardSet}
use Rattle.card_sets.specs.Disjoint.{apart}
use Rattle.card_sets.specs.Games.{own_size, board_size}
use Rattle.card_sets.specs.Streets.{is_street, streets_of, board_count}
use Rattle.hand_events.specs.declared.events.Header.{Header}
use Rattle.hand_events.specs.declared.events.Event.{Event}
use Rattle.hand_events.specs.declared.events.Event.TheVariants.{Street}
pub use Rattle.hand_events.specs.MarkerCards.{HasCards, MarkerFits}
use Rattle.card_sets.specs.declared.streets.Street.{Street as StreetName}
use Rattle.betting_replay.specs.declared.points.Point.{Point}
use Rattle.betting_replay.specs.Accepted.{IsAccepted}
use Rattle.betting_replay.specs.Boards.{board_up_to, second_board}
pub use Rattle.betting_replay.specs.Streets.{is_end}
use Rattle.betting_replay.specs.Known.{final_cards, cards_at}
use Rattle.betting_replay.specs.Places.{owned}
use Rattle.card_sets.specs.PlayerSets.{has_player}
use Rattle.betting_replay.specs.Sums.{street, last_begun, runs_twice, second_begun}
use Rattle.betting_replay.specs.TableAfter.{table_of, point, dead_cards}
use Rattle.betting_replay.specs.Turns.{contender_count}

-- two different places share no card
abbrev pub PlacesAreApart : Type 0
PlacesAreApart = (game : Game) (h : List Event) (p q : ℕ) → (p == q) ≡ false
    → apart (owned game h p) (owned game h q) ≡ true

-- a set of cards, each of which is in the other list
pub record Among (cards others : List ℕ) : Type 0 where
  pub set : IsCardSet cards
  pub each : (card : ℕ) → has_card cards card ≡ true → has_card others card ≡ true

-- what accepted events make of the known cards and of the dead cards
pub record CardsBelong (header : Header) (players : ℕ) (h : List Event) : Type 0 where
  -- a seat's final cards belong to it, have the number of the game, and none is on the board
  pub final : (p : ℕ) (cards : List ℕ) → final_cards header h p ≡ Some cards
      → Among cards (owned header.game h p)
  pub whole : (p : ℕ) (cards : List ℕ) → final_cards header h p ≡ Some cards
      → length cards ≡ own_size header.game
  pub final_and_board : (p : ℕ) → (p == 0) ≡ false → (cards : List ℕ)
      → final_cards header h p ≡ Some cards → apart cards (owned header.game h 0) ≡ true
  -- its cards on a street belong to it, are at most that many, and none is another seat's
  pub known : (p : ℕ) (street : StreetName) (cards : List ℕ)
      → cards_at header h p street ≡ Some cards → Among cards (owned header.game h p)
  pub few : (p : ℕ) (street : StreetName) (cards : List ℕ) → cards_at header h p street ≡ Some cards
      → length cards ≤ own_size header.game
  pub two_seats : (p q : ℕ) → (p == q) ≡ false → (street : StreetName) (some others : List ℕ)
      → cards_at header h p street ≡ Some some → cards_at header h q street ≡ Some others
      → apart some others ≡ true
  -- the board's cards up to a street belong to the board, and none is a seat's
  pub board : (street : StreetName) → Among (board_up_to h street) (owned header.game h 0)
  pub seat_and_board : (p : ℕ) → (p == 0) ≡ false → (street shown : StreetName) (cards : List ℕ)
      → cards_at header h p street ≡ Some cards → apart cards (board_up_to h shown) ≡ true
  -- the second board is a set of cards, and none of them is a seat's
  pub second_set : (second : List ℕ) → second_board h ≡ Some second → IsCardSet second
  pub final_and_second : (p : ℕ) → (p == 0) ≡ false → p < 11 → (cards second : List ℕ)
      → final_cards header h p ≡ Some cards → second_board h ≡ Some second
      → apart cards second ≡ true
  pub seat_and_second : (p : ℕ) → (p == 0) ≡ false → p < 11
      → (street : StreetName) (cards second : List ℕ) → cards_at header h p street ≡ Some cards
      → second_board h ≡ Some second → apart cards second ≡ true
  -- dead cards are a set, and none is on a board or is a card of a player who hadn't folded at the point
  pub dead_set : IsCardSet (dead_cards header players h)
  pub dead_and_board : apart (dead_cards header players h) (owned header.game h 0) ≡ true
  pub dead_and_shown : (street : StreetName)
      → apart (dead_cards header players h) (board_up_to h street) ≡ true
  pub dead_and_second : (second : List ℕ) → second_board h ≡ Some second
      → apart (dead_cards header players h) second ≡ true
  pub dead_and_known : (found : Point) → point header players h ≡ Some found → (p : ℕ)
      → has_player found.contenders p ≡ true → (street : StreetName) (cards : List ℕ)
      → cards_at header h p street ≡ Some cards
      → apart (dead_cards header players h) cards ≡ true

abbrev pub CardsBelongAfter : Type 0
CardsBelongAfter = (header : Header) (players : ℕ) (h : List Event) → IsAccepted header players h
    → CardsBelong header players h

-- the sum of a number for each of some streets, up to one of them
abbrev pub sum_up_to : (StreetName → ℕ) → StreetName → List StreetName → ℕ
sum_up_to many street [] = 0
sum_up_to many street (first ∷ others) = many first + (if is_street street first then 0 else sum_up_to many street others)

-- the number of cards of a board on a street
abbrev pub board_then : Game → StreetName → ℕ
board_then game street = sum_up_to (board_count game) street (streets_of game)

-- each marker has the number of cards that come with it
abbrev pub MarkersFit : Game → List Event → Type 0
MarkersFit game [] = Unit {0}
MarkersFit game (e ∷ h) = MarkerFits game e × MarkersFit game h

-- whether the last marker is that of a showdown or of the summary
abbrev pub is_end_of : Option StreetName → Bool
is_end_of None = false
is_end_of (Some marker) = is_end marker

abbrev pub ends : Event → Bool
ends (Street street number cards) = is_end street
ends _ = false

abbrev pub has_ended : List Event → Bool
has_ended [] = false
has_ended (e ∷ h) = ends e || has_ended h

-- after accepted events whose markers have their cards, a board with all streets has all cards, and no board has more;
-- so does the second board of a hand that is run twice; at the point the board has the cards of the streets up to it
pub record HasBoard (header : Header) (players : ℕ) (h : List Event) : Type 0 where
  pub last : last_begun header h ≡ true → length (owned header.game h 0) ≡ board_size header.game
  pub few : (street : StreetName) → length (board_up_to h street) ≤ board_size header.game
  pub second_last : second_begun header h ≡ true → (second : List ℕ) → second_board h ≡ Some second
      → length second ≡ board_size header.game
  pub second_few : (second : List ℕ) → second_board h ≡ Some second
      → length second ≤ board_size header.game
  pub at_point : (found : Point) → point header players h ≡ Some found
      → length (board_up_to h found.street) ≡ board_then header.game found.street

-- if a hand has ended, its last street has begun, on both boards if it is run twice, or fewer than two contenders are
-- left
pub record HasEnded (header : Header) (players : ℕ) (h : List Event) : Type 0 where
  pub marker : is_end_of (street header h) ≡ true → has_ended h ≡ true
  pub played : has_ended h ≡ true
      → (last_begun header h || nat_lt (contender_count (table_of header players h)) 2) ≡ true
  pub twice : has_ended h ≡ true → runs_twice h ≡ true
      → (second_begun header h || nat_lt (contender_count (table_of header players h)) 2) ≡ true

pub record WholeBoards : Type 0 where
  pub boards : (header : Header) (players : ℕ) (h : List Event) → IsAccepted header players h
      → MarkersFit header.game h → HasBoard header players h
  pub ends : (header : Header) (players : ℕ) (h : List Event) → IsAccepted header players h
      → HasEnded header players h
