-- The settlement: what each pot holds, what was collected from it, and what the rules give of it.
use Rattle.std.specs.Prelude.{◌≡◌, ◌⊎◌, ℕ, zero, suc, ◌+◌, ◌-◌, ◌==◌, ◌||◌, nat_lt, Bool, true, false, if◌then◌else◌, List, [], ◌∷◌, ◌++◌, map, length, max, min, sum_by, Option, Some, None, is_some, slice_index_or}
use Rattle.std.specs.List.{list_all, list_any}
use Rattle.card_sets.specs.PlayerSets.{players_where, seats_in}
use Rattle.card_sets.specs.declared.games.Game.{Game}
use Rattle.card_sets.specs.declared.games.Side.{Side}
use Rattle.card_sets.specs.Games.{sides_of, has_marks}
use Rattle.showdown_tally.specs.Showdown.{best, winners_of}
use Rattle.pot_layers.specs.declared.paid.Paid.{Paid}
use Rattle.pot_layers.specs.declared.paid.Pot.{Pot}
use Rattle.pot_layers.specs.declared.paid.Share.{Share}
use Rattle.pot_layers.specs.Pots.{pots}
use Rattle.pot_layers.specs.Split.{shares, first_half, second_half}
use Rattle.betting_replay.specs.Seats.{or_else}
use Rattle.hand_audit.specs.declared.collections.Collection.{Collection}
use Rattle.hand_verdict.specs.declared.settlement.PotLine.{PotLine}
use Rattle.hand_verdict.specs.declared.settlement.Payment.{Payment}
use Rattle.hand_audit.specs.Collections.{taken_from, got_from}
use Rattle.hand_audit.specs.PotNames.{counts_from, fits}
use Rattle.hand_audit.specs.declared.pot_names.Source.{Source}
use Rattle.hand_audit.specs.declared.pot_names.Source.TheVariants.{Any, Numbered}
use Rattle.hand_audit.specs.Orders.{odd_order, by_marks}
use Rattle.hand_audit.specs.Marks.{mark_of}

-- what a settlement looks at: the game, what each player paid, the collections, the button, the final cards by seat, the board's
-- and, of a hand that was run twice, the second board's
pub record Showing : Type 0 where
  pub game : Game
  pub paid : List Paid
  pub collections : List Collection
  pub button : ℕ
  pub hands : List (Option (List ℕ))
  pub board : List ℕ
  pub second : Option (List ℕ)

-- what is split of a pot: some units, among the players who win by the cards of a board
pub record Part : Type 0 where
  pub units : ℕ
  pub board : List ℕ

-- the parts of some units: one of them all, by the board; of a hand that was run twice two halves, the first rounded up by the
-- board and the second down by the second board
abbrev pub parts_by : Option (List ℕ) → List ℕ → ℕ → List Part
parts_by None board units = record { units = units; board = board } ∷ []
parts_by (Some second) board units =
    record { units = first_half units; board = board } ∷ record { units = second_half units; board = second } ∷ []

abbrev pub parts_of : Showing → ℕ → List Part
parts_of s units = parts_by s.second s.board units

-- one of the boards that pots go by
abbrev pub IsBoardOf : Showing → List ℕ → Type 0
IsBoardOf s board = (board ≡ s.board) ⊎ (s.second ≡ Some board)

-- a seat's final cards
abbrev pub hand_of : Showing → ℕ → Option (List ℕ)
hand_of s p = slice_index_or s.hands p None

-- what final cards are worth on a side: nothing where they are unknown, or the game hasn't the side
abbrev pub value_of_hand : Side → Game → List ℕ → Option (List ℕ) → Option (List ℕ)
value_of_hand side game board None = None
value_of_hand side game board (Some own) = best side game own board

abbrev pub value_on : Option Side → Game → List ℕ → Option (List ℕ) → Option (List ℕ)
value_on None game board own = None
value_on (Some side) game board own = value_of_hand side game board own

abbrev pub worth_on : Option Side → Showing → List ℕ → ℕ → Option (List ℕ)
worth_on side s board p = value_on side s.game board (hand_of s p)

-- the set of some seats
abbrev pub set_of : List ℕ → ℕ
set_of seats = players_where (λ p. list_any (λ q. q == p) seats) 11

-- the sides that a pot is played for, the first and the second; none if the game has no such side
abbrev pub first_side : Game → Option Side
first_side game = slice_index_or (sides_of game) 0 None

abbrev pub second_side : Game → Option Side
second_side game = slice_index_or (sides_of game) 1 None

-- a pot is checked where one player alone is eligible, or the final cards of all who are, are known
abbrev pub is_alone : ℕ → Bool
is_alone eligible = length (seats_in eligible) == 1

abbrev pub are_known : Showing → ℕ → Bool
are_known s eligible = list_all (λ p. is_some (hand_of s p)) (seats_in eligible)

unfoldable pub is_checked : Showing → ℕ → Bool
is_checked s eligible = is_alone eligible || are_known s eligible

-- the winners of a side of a pot by a board, and none where the game hasn't the side
abbrev pub side_winners : Option Side → Showing → List ℕ → ℕ → ℕ
side_winners None s board eligible = 0
side_winners (Some side) s board eligible = set_of (winners_of side (worth_on (Some side) s board) (seats_in eligible))

-- the winners of the first side, and of the second
unfoldable pub first_winners : Showing → List ℕ → ℕ → ℕ
first_winners s board eligible = side_winners (first_side s.game) s board eligible

unfoldable pub second_winners : Showing → List ℕ → ℕ → ℕ
second_winners s board eligible = side_winners (second_side s.game) s board eligible

-- a player's mark on a side, 0 where his final cards are unknown
abbrev pub mark_at : Option Side → Showing → List ℕ → ℕ → ℕ
mark_at side s board p = mark_of side s.game board (hand_of s p)

-- the order in which the winners of a side get odd units: by their marks on it in the stud games, and by the button in the games with
-- a board and with a draw
unfoldable pub order_of : Option Side → Showing → List ℕ → ℕ → List ℕ
order_of side s board winners = if has_marks s.game then by_marks (mark_at side s board) (seats_in winners) else odd_order s.button winners

-- the rules' shares of a part: a player who is alone has all units
unfoldable pub shares_alone : ℕ → ℕ → List Share
shares_alone eligible units = shares units (set_of (seats_in eligible)) 0 (seats_in eligible) []

-- else they go to the winners of its two sides
unfoldable pub shares_by : Showing → Part → ℕ → ℕ → List Share
shares_by s part first second =
    shares part.units first second (order_of (first_side s.game) s part.board first) (order_of (second_side s.game) s part.board second)

abbrev pub shares_among : Bool → Showing → ℕ → Part → List Share
shares_among true s eligible part = shares_alone eligible part.units
shares_among false s eligible part = shares_by s part (first_winners s part.board eligible) (second_winners s part.board eligible)

-- those of some parts, one part after another
abbrev pub shares_of_parts : Showing → ℕ → List Part → List Share
shares_of_parts s eligible [] = []
shares_of_parts s eligible (part ∷ parts) = shares_among (is_alone eligible) s eligible part ++ shares_of_parts s eligible parts

-- and none where it isn't known who wins
abbrev pub shares_if : Bool → Showing → ℕ → List Part → List Share
shares_if true s eligible parts = shares_of_parts s eligible parts
shares_if false s eligible parts = []

-- what some shares give a seat, and how many sides of parts it wins, which are its tolerance
abbrev pub due_of_seat : ℕ → List Share → ℕ
due_of_seat p all = sum_by (λ share. if share.seat == p then share.units else 0) all

abbrev pub sides_of_seat : ℕ → List Share → ℕ
sides_of_seat p all = sum_by (λ share. if share.seat == p then share.sides else 0) all

-- the payment of a seat: what it got and what it is due; where it isn't known who wins it is due what it got
abbrev pub payment : Bool → ℕ → List Share → ℕ → Payment
payment checked got all p = record { seat = p; got = got; due = if checked then due_of_seat p all else got }

-- the payments of the seats from one on who got something or are due something, rising
abbrev pub is_payment : Payment → Bool
is_payment pay = nat_lt 0 pay.got || nat_lt 0 pay.due

abbrev pub payments_from : (ℕ → Payment) → ℕ → ℕ → List Payment
payments_from pay p zero = []
payments_from pay p (suc n) = if is_payment (pay p) then pay p ∷ payments_from pay (p + 1) n else payments_from pay (p + 1) n

-- the first payment among the seats from one on that is beyond its tolerance
abbrev pub distance : ℕ → ℕ → ℕ
distance a b = max a b - min a b

abbrev pub beyond_from : (ℕ → Payment) → (ℕ → ℕ) → ℕ → ℕ → Option Payment
beyond_from pay tolerance p zero = None
beyond_from pay tolerance p (suc n) =
    if nat_lt (tolerance p) (distance (pay p).got (pay p).due) then Some (pay p) else beyond_from pay tolerance (p + 1) n

-- the same among some payments
abbrev pub beyond_among : (ℕ → ℕ) → List Payment → Option Payment
beyond_among tolerance [] = None
beyond_among tolerance (pay ∷ pays) =
    if nat_lt (tolerance pay.seat) (distance pay.got pay.due) then Some pay else beyond_among tolerance pays

-- one pot whose names fit, by the collections that are from it
abbrev pub net_of : Showing → Source → ℕ
net_of s source = taken_from (counts_from source) s.collections

unfoldable pub shares_of_pot : Showing → Source → Pot → List Share
shares_of_pot s source pot = shares_if (is_checked s pot.eligible) s pot.eligible (parts_of s (net_of s source))

abbrev pub pay_of : Showing → Source → Pot → ℕ → Payment
pay_of s source pot p = payment (is_checked s pot.eligible) (got_from (counts_from source) p s.collections) (shares_of_pot s source pot) p

abbrev pub pot_line : Showing → Source → Pot → PotLine
pot_line s source pot = record {
  gross = pot.units;
  rake = pot.units - net_of s source;
  eligible = pot.eligible;
  checked = is_checked s pot.eligible;
  paid = payments_from (pay_of s source pot) 1 10;
}

-- its first payment that is further from what is due than the number of sides of parts that the seat wins
abbrev pub beyond_of : Showing → Source → Pot → Option Payment
beyond_of s source pot = beyond_from (pay_of s source pot) (λ p. sides_of_seat p (shares_of_pot s source pot)) 1 10

-- the pots numbered from k on, by the number of all pots
abbrev pub pot_lines : Showing → ℕ → ℕ → List Pot → List PotLine
pot_lines s count k [] = []
pot_lines s count k (pot ∷ more) = pot_line s (Numbered count k) pot ∷ pot_lines s count (k + 1) more

-- one pot whose names don't fit: nothing is known of its rake, and its payments stand for the hand
abbrev pub unfit_line : Pot → PotLine
unfit_line pot = record { gross = pot.units; rake = 0; eligible = pot.eligible; checked = false; paid = [] }

abbrev pub hand_payment : Showing → ℕ → Payment
hand_payment s p = payment false (got_from (counts_from Any) p s.collections) [] p

-- the settlement of a hand: whether the names fit, its pots, and the payments of the hand where they don't
pub record Settled : Type 0 where
  pub fits : Bool
  pub pots : List PotLine
  pub paid : List Payment

abbrev pub settled_of : Bool → Showing → List Pot → Settled
settled_of true s all = record { fits = true; pots = pot_lines s (length all) 0 all; paid = [] }
settled_of false s all = record { fits = false; pots = map unfit_line all; paid = payments_from (hand_payment s) 1 10 }

unfoldable pub settled : Showing → Settled
settled s = settled_of (fits (pots s.paid) s.collections) s (pots s.paid)

-- the first pot's first seat beyond its tolerance, where the names fit
abbrev pub beyond_in : Showing → ℕ → ℕ → List Pot → Option Payment
beyond_in s count k [] = None
beyond_in s count k (pot ∷ more) = or_else (beyond_of s (Numbered count k) pot) (beyond_in s count (k + 1) more)

abbrev pub beyond_if : Bool → Showing → List Pot → Option Payment
beyond_if true s all = beyond_in s (length all) 0 all
beyond_if false s all = None

unfoldable pub beyond : Showing → Option Payment
beyond s = beyond_if (fits (pots s.paid) s.collections) s (pots s.paid)
