-- The known cards of the players: at the end of the hand, and on a street of it. Source: the usual rules of poker, and
-- what a history shows.
use Rattle.std.specs.Prelude.{ℕ, zero, suc, ◌==◌, ◌&&◌, not, Bool, if◌then◌else◌, List, [], ◌∷◌, length, Option, Some, None}
use Rattle.card_sets.specs.declared.games.Game.{Game}
use Rattle.card_sets.specs.declared.games.Family.{Family}
use Rattle.card_sets.specs.declared.games.Family.TheVariants as family
use Rattle.card_sets.specs.Games.{family_of, own_size}
use Rattle.card_sets.specs.Cards.{has_card, union, minus}
use Rattle.card_sets.specs.Disjoint.{apart}
use Rattle.hand_events.specs.declared.events.Header.{Header}
use Rattle.hand_events.specs.declared.events.Event.{Event}
use Rattle.card_sets.specs.declared.streets.Street.{Street as StreetName}
use Rattle.card_sets.specs.declared.streets.Street.TheVariants.{First, Fourth, Fifth, Sixth, FirstDraw, SecondDraw}
use Rattle.betting_replay.specs.declared.seats.Deals.{Deals}
use Rattle.betting_replay.specs.declared.seats.SeatDraws.{SeatDraws}
use Rattle.betting_replay.specs.declared.seats.LastDraw.{LastDraw}
use Rattle.betting_replay.specs.Seats.{or_else}
use Rattle.betting_replay.specs.Places.{owned, thrown}
use Rattle.betting_replay.specs.Hands.{dealt, held, shown, row, if_many}
use Rattle.betting_replay.specs.Dealing.{deals_of, draws_of, last_draw_of}

-- what the text says of a seat's cards: all that belong to it, all dealt to it, those that it holds, the last whole
-- hand that it showed, its deals, its last bracket of seven, how it drew, and how it drew last; and all cards that any
-- player discarded face up
pub record Holding : Type 0 where
  pub own : List ℕ
  pub dealt : List ℕ
  pub held : List ℕ
  pub shown : Option (List ℕ)
  pub deals : Deals
  pub row : Option (List ℕ)
  pub draws : SeatDraws
  pub last : LastDraw
  pub thrown : List ℕ

-- in a draw game: the last whole hand shown, or otherwise the cards dealt and drawn without the discards, if these are
-- five and no discard was hidden
abbrev pub final_drawn : Holding → Option (List ℕ)
final_drawn x = or_else x.shown (if x.draws.hidden then None else if_many 5 (minus x.dealt x.thrown))

-- with several draws: the last whole hand shown, or otherwise the cards that the player holds by the text, if these are
-- five and no discard was hidden
abbrev pub final_held : Holding → Option (List ℕ)
final_held x = or_else x.shown (if x.draws.hidden then None else if_many 5 x.held)

-- with a board: the last whole hand shown, or otherwise the dealt cards, if there are n of them
abbrev pub final_with : ℕ → Holding → Option (List ℕ)
final_with n x = or_else x.shown (if_many n x.dealt)

-- a player's final cards; in a stud game all seven
abbrev pub final_in : Family → ℕ → Holding → Option (List ℕ)
final_in family.Board size x = final_with size x
final_in family.Stud size x = if_many 7 x.own
final_in family.Draw size x = final_drawn x
final_in family.TripleDraw size x = final_held x

abbrev pub final_by : Game → Holding → Option (List ℕ)
final_by game x = final_in (family_of game) (own_size game) x

-- the first n cards of a row that aren't in another list
abbrev pub first_outside : ℕ → List ℕ → List ℕ → List ℕ
first_outside zero others cards = []
first_outside (suc n) others [] = []
first_outside (suc n) others (card ∷ cards) = if has_card others card then first_outside (suc n) others cards else card ∷ first_outside n others cards

-- the cards with the two that are face down: the first two of a bracket of seven that aren't face up
abbrev pub with_down : List ℕ → List ℕ → Option (List ℕ) → Option (List ℕ)
with_down cards up None = None
with_down cards up (Some row) = Some (union cards (first_outside 2 up row))

-- some dealt cards and those that are face down; these were dealt too if three came at once
abbrev pub with_first : Holding → List ℕ → Option (List ℕ)
with_first x cards = if x.deals.down then Some cards else with_down cards x.deals.up x.row

-- the cards, if there are n of them
abbrev pub so_many : ℕ → Option (List ℕ) → Option (List ℕ)
so_many n None = None
so_many n (Some cards) = if_many n cards

-- in a stud game the cards of the streets up to one; on the last street all seven
abbrev pub known_stud : Holding → StreetName → Option (List ℕ)
known_stud x First = so_many 3 (with_first x x.deals.first)
known_stud x Fourth = so_many 4 (with_first x (union x.deals.first x.deals.fourth))
known_stud x Fifth = so_many 5 (with_first x (union (union x.deals.first x.deals.fourth) x.deals.fifth))
known_stud x Sixth = so_many 6 (with_first x (union (union (union x.deals.first x.deals.fourth) x.deals.fifth) x.deals.sixth))
known_stud x street = if_many 7 x.own

-- the text has five dealt cards, no hidden discard, and no discard of another card
abbrev pub draws_openly : Holding → Bool
draws_openly x = (length x.deals.given == 5) && not x.draws.hidden && apart (minus x.own x.deals.given) x.thrown

-- the cards that a player keeps in the draw: the five without the discards; or the final five, if the player stands pat
-- and discarded none face up; or none, if the player discards five
abbrev pub kept : Holding → Option (List ℕ)
kept x =
    if draws_openly x then Some (minus x.deals.given x.thrown)
    else (if x.draws.pat && apart x.own x.thrown then final_drawn x else (if x.draws.five then Some [] else None))

abbrev pub known_drawn : Holding → StreetName → Option (List ℕ)
known_drawn x First = kept x
known_drawn x street = final_drawn x

-- the text has the five cards with which a player came to the last draw, and all their discards on it
abbrev pub draws_last_openly : LastDraw → Bool
draws_last_openly d = (length d.held == 5) && not d.hidden_before && not d.hidden

-- the cards that a player keeps in the last draw: the final five, if the player stands pat; none, if the player
-- discards five; or the five without the discards
abbrev pub kept_last : Holding → Option (List ℕ)
kept_last x =
    if x.last.pat then final_held x
    else (if x.last.five then Some [] else (if draws_last_openly x.last then Some (minus x.last.held x.last.thrown) else None))

-- with three draws the cards are known on the last draw and at the end
abbrev pub known_triple : Holding → StreetName → Option (List ℕ)
known_triple x First = None
known_triple x FirstDraw = None
known_triple x SecondDraw = kept_last x
known_triple x street = final_held x

-- a player's cards on a street, by the whole text; with a board the final cards
abbrev pub known_in : Family → ℕ → Holding → StreetName → Option (List ℕ)
known_in family.Board size x street = final_with size x
known_in family.Stud size x street = known_stud x street
known_in family.Draw size x street = known_drawn x street
known_in family.TripleDraw size x street = known_triple x street

abbrev pub known_by : Game → Holding → StreetName → Option (List ℕ)
known_by game x street = known_in (family_of game) (own_size game) x street

-- what the events so far say of a seat's cards
abbrev pub holding_of : Header → List Event → ℕ → Holding
holding_of header h p = record {
  own = owned header.game h p;
  dealt = dealt h p;
  held = held h p;
  shown = shown header h p;
  deals = deals_of header h p;
  row = row h p;
  draws = draws_of h p;
  last = last_draw_of header h p;
  thrown = thrown h;
}

abbrev pub final_cards : Header → List Event → ℕ → Option (List ℕ)
final_cards header h p = final_by header.game (holding_of header h p)

abbrev pub cards_at : Header → List Event → ℕ → StreetName → Option (List ℕ)
cards_at header h p street = known_by header.game (holding_of header h p) street
