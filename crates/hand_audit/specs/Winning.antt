-- The winners of a side, by the numbers that the values of the hands are kept as: greater for better.
use Rattle.std.specs.Prelude.{◌≡◌, ℕ, ◌<◌, ◌≤◌, ◌&&◌, ◌==◌, not, nat_lt, Bool, false, if◌then◌else◌, List, [], ◌∷◌, length, slice_index_or, Option, Some, None, is_some, IfSome}
use Rattle.std.specs.List.{list_all}
use Rattle.card_sets.specs.PlayerSets.{has_player, players_where, seats_in}
use Rattle.card_sets.specs.Disjoint.{apart}
use Rattle.card_sets.specs.Games.{own_size, board_size}
use Rattle.card_sets.specs.declared.games.Side.{Side}
use Rattle.card_sets.specs.declared.games.Game.{Game}
use Rattle.showdown_tally.specs.Numbers.{side_number}
use Rattle.showdown_tally.specs.Settling.{number_of}
use Rattle.showdown_tally.specs.Showdown.{is_beaten_by}
use Rattle.showdown_tally.specs.Laws.{IsFull}
use Rattle.pot_layers.specs.declared.paid.Pot.{Pot}
use Rattle.hand_audit.specs.declared.worths.OnSide.{OnSide}
use Rattle.hand_audit.specs.declared.worths.OnBoard.{OnBoard}
use Rattle.hand_audit.specs.declared.standings.Standings.{Standings}
use Rattle.hand_audit.specs.Marks.{mark_of}
use Rattle.hand_audit.specs.Settle.{Showing, IsBoardOf, hand_of, value_on, first_side, second_side}

-- whether a number is beaten by another's
abbrev pub is_beaten : Option ℕ → Option ℕ → Bool
is_beaten None other = false
is_beaten (Some mine) None = false
is_beaten (Some mine) (Some other) = nat_lt mine other

-- no seat of a set has a number that beats one
abbrev pub is_unbeaten : List (Option ℕ) → ℕ → Option ℕ → Bool
is_unbeaten values seats mine = list_all (λ q. not (is_beaten mine (number_of values q))) (seats_in seats)

-- a seat wins where it is in the set, and has a number which no other's beats; 0 is no seat
unfoldable pub wins : List (Option ℕ) → ℕ → ℕ → Bool
wins values seats p = nat_lt 0 p && has_player seats p && is_some (number_of values p) && is_unbeaten values seats (number_of values p)

unfoldable pub winners_by : List (Option ℕ) → ℕ → ℕ
winners_by values seats = players_where (wins values seats) 11

-- a seat of the table is in a set
abbrev pub is_seat_in : ℕ → ℕ → Bool
is_seat_in seats p = nat_lt 0 p && has_player seats p

-- a side's beating; nothing is beaten where the game hasn't the side
abbrev pub beaten_on : Option Side → Option (List ℕ) → Option (List ℕ) → Bool
beaten_on None mine other = false
beaten_on (Some side) mine other = is_beaten_by side mine other

-- the number that a value on a side is kept as, greater for better; there is no value where the game hasn't the side
abbrev pub number_on : Option Side → Game → List ℕ → ℕ
number_on None game = λ value. 0
number_on (Some side) game = side_number side game

-- the numbers of the seats are in the order of the values
pub record Ranks (side : Option Side) (values : List (Option ℕ)) (worth : ℕ → Option (List ℕ)) : Type 0 where
  pub some : (p : ℕ) → p < 11 → is_some (number_of values p) ≡ is_some (worth p)
  pub order : (p q : ℕ) → p < 11 → q < 11 → is_beaten (number_of values p) (number_of values q) ≡ beaten_on side (worth p) (worth q)

-- final cards that can be shown down on a board: both have all their cards, and share none
abbrev pub is_full : Game → List ℕ → List ℕ → Bool
is_full game board own = (length own == own_size game) && (length board == board_size game) && apart own board

abbrev pub full_with : Game → List ℕ → Option (List ℕ) → Option (List ℕ)
full_with game board None = None
full_with game board (Some own) = if is_full game board own then Some own else None

-- all hands that are known can be, on one board
abbrev pub AreFullHands : Game → List ℕ → List (Option (List ℕ)) → Type 0
AreFullHands game board hands = (p : ℕ) → p < 11 → IfSome (slice_index_or hands p None) (λ own. IsFull game own board)

abbrev pub AreFullOn : Showing → List ℕ → Type 0
AreFullOn s board = AreFullHands s.game board s.hands

-- and on each board that pots go by
abbrev pub AreFull : Showing → Type 0
AreFull s = (board : List ℕ) → IsBoardOf s board → AreFullOn s board

-- what is kept of some hands, by seat, on a side of a board tells who wins it, and in which order
pub record TellsSide (w : OnSide) (side : Option Side) (game : Game) (board : List ℕ) (hands : List (Option (List ℕ))) : Type 0 where
  pub ranks : Ranks side w.values (λ p. value_on side game board (slice_index_or hands p None))
  pub marks : (p : ℕ) → p < 11 → slice_index_or w.marks p 0 ≡ mark_of side game board (slice_index_or hands p None)

-- so of both sides
pub record TellsBoard (w : OnBoard) (game : Game) (board : List ℕ) (hands : List (Option (List ℕ))) : Type 0 where
  pub first : TellsSide w.first (first_side game) game board hands
  pub second : TellsSide w.second (second_side game) game board hands

-- so where the hands can be shown down on the board
abbrev pub TellsHands : OnBoard → Game → List ℕ → List (Option (List ℕ)) → Type 0
TellsHands w game board hands = AreFullHands game board hands → TellsBoard w game board hands

-- and on a second board, of which something is kept exactly where there is one
abbrev pub TellsSecond : Option OnBoard → Game → Option (List ℕ) → List (Option (List ℕ)) → Type 0
TellsSecond None game None hands = Unit {0}
TellsSecond None game (Some board) hands = ⊥
TellsSecond (Some w) game None hands = ⊥
TellsSecond (Some w) game (Some board) hands = TellsHands w game board hands

-- what is kept of the final cards tells who wins
pub record Tells (w : Standings) (s : Showing) : Type 0 where
  pub game : w.game ≡ s.game
  pub known : (p : ℕ) → p < 11 → has_player w.known p ≡ is_some (hand_of s p)
  pub board : TellsHands w.board s.game s.board s.hands
  pub second : TellsSecond w.second s.game s.second s.hands
  pub button : w.button ≡ s.button

-- marks are cards, on each side of a board
abbrev pub HasMarks : OnSide → Type 0
HasMarks w = (p : ℕ) → p < 11 → slice_index_or w.marks p 0 < 52

pub record HasBothMarks (w : OnBoard) : Type 0 where
  pub first : HasMarks w.first
  pub second : HasMarks w.second

-- so on each board, and the button is a seat or none
pub record IsReady (w : Standings) : Type 0 where
  pub button : w.button ≤ 10
  pub board : HasBothMarks w.board
  pub second : IfSome w.second HasBothMarks

-- where a pot has two players or more, their final cards, where they are known, can be shown down
abbrev pub IsDecided : Showing → ℕ → Type 0
IsDecided s eligible = 2 ≤ length (seats_in eligible) → AreFull s

-- so of each pot
abbrev pub AreDecided : Showing → List Pot → Type 0
AreDecided s [] = Unit {0}
AreDecided s (pot ∷ pots) = IsDecided s pot.eligible × AreDecided s pots

-- where a pot has two players or more, their final cards can be shown down on a board, and what is kept tells who wins by it
pub record TellsFull (w : OnBoard) (s : Showing) (board : List ℕ) : Type 0 where
  pub full : AreFullOn s board
  pub tells : TellsBoard w s.game board s.hands

abbrev pub Decides : OnBoard → Showing → List ℕ → ℕ → Type 0
Decides w s board eligible = 2 ≤ length (seats_in eligible) → TellsFull w s board
