-- What holds of a hand that is run twice.
use Rattle.std.specs.Prelude.{◌≡◌, ℕ, true, List, Some, is_some}
use Rattle.card_sets.specs.Cards.{has_card}
use Rattle.card_sets.specs.Games.{has_board}
use Rattle.hand_events.specs.declared.events.Header.{Header}
use Rattle.hand_events.specs.declared.events.Event.{Event}
use Rattle.card_sets.specs.declared.streets.Street.{Street as StreetName}
use Rattle.betting_replay.specs.declared.points.Point.{Point}
use Rattle.betting_replay.specs.Accepted.{IsAccepted}
use Rattle.betting_replay.specs.Boards.{board_up_to, board_before, second_board}
use Rattle.betting_replay.specs.CardLaws.{MarkersFit}
use Rattle.betting_replay.specs.Places.{owned}
use Rattle.betting_replay.specs.Streets.{is_later}
use Rattle.betting_replay.specs.Sums.{twice_from, second_street}
use Rattle.betting_replay.specs.TableAfter.{point}

-- a card is on both boards exactly where it came with a street before the first that has two
pub record ShareBoards (header : Header) (h : List Event) (from : StreetName) (others : List ℕ) : Type 0 where
  pub before : (card : ℕ) → has_card (owned header.game h 0) card ≡ true
      → has_card others card ≡ true → has_card (board_before h from) card ≡ true
  pub first : (card : ℕ) → has_card (board_before h from) card ≡ true
      → has_card (owned header.game h 0) card ≡ true
  pub second : (card : ℕ) → has_card (board_before h from) card ≡ true → has_card others card ≡ true

-- after accepted events whose markers have their cards a hand that is run twice has a board, has two from a street after the first on, and was
-- at its all-in point before: the board's cards of that point are among those before. Its boards share exactly these
pub record IsRunTwice (header : Header) (players : ℕ) (h : List Event) (from : StreetName) : Type 0 where
  pub board : has_board header.game ≡ true
  pub later : is_later from ≡ true
  pub all_in : is_some (point header players h) ≡ true
  pub known : (found : Point) → point header players h ≡ Some found → (card : ℕ)
      → has_card (board_up_to h found.street) card ≡ true
      → has_card (board_before h from) card ≡ true
  pub share : (second : List ℕ) → second_board h ≡ Some second → ShareBoards header h from second

pub record RunsTwice : Type 0 where
  pub twice : (header : Header) (players : ℕ) (h : List Event) → IsAccepted header players h
      → MarkersFit header.game h
      → (from : StreetName) → twice_from h ≡ Some from → IsRunTwice header players h from
  -- a second board has come only where the hand is run twice
  pub second : (header : Header) (players : ℕ) (h : List Event) → IsAccepted header players h
      → is_some (second_street h) ≡ true → is_some (twice_from h) ≡ true
