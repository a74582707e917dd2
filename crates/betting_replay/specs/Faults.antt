-- The rules for events: sixteen tests in this order. A test that fails gives its fault.
use Rattle.std.specs.Prelude.{ℕ, ◌==◌, ◌&&◌, ◌||◌, not, Bool, true, false, if◌then◌else◌, List, [], ◌∷◌, length, Option, Some, None, is_some, is_none, nat_lt, nat_le, Result, Ok, Err}
use Rattle.card_sets.specs.Games.{has_board, most_owned}
use Rattle.hand_events.specs.declared.events.Header.{Header}
use Rattle.hand_events.specs.declared.events.BoardNumber.{BoardNumber}
use Rattle.hand_events.specs.declared.events.BoardNumber.TheVariants as board
use Rattle.hand_events.specs.declared.events.Event.{Event}
use Rattle.hand_events.specs.declared.events.Event.TheVariants.{Seat, Post, Street, Act, Uncalled, Collect, Discard, Pat}
use Rattle.hand_events.specs.declared.events.Act.{Act as Deed}
use Rattle.hand_events.specs.declared.events.Act.TheVariants.{Fold, Check, Call, Bet, Raise}
use Rattle.card_sets.specs.declared.streets.Street.{Street as StreetName}
use Rattle.card_sets.specs.declared.streets.Street.TheVariants.{ShowDown, Summary}
use Rattle.hand_events.specs.declared.faults.BetFault.{BetFault}
use Rattle.hand_events.specs.declared.faults.BetFault.TheVariants.{NotInHand, OutOfTurn, NothingOwed, CheckFacingBet, CallAmount, BetFacingBet, RaiseAmount, AboveStack, AllInWord, StreetEarly, StreetOrder, UncalledAmount, CardTwice, PostLate, SeatTwice, TooManyCards}
use Rattle.betting_replay.specs.Events.{seat_of, act_chips, is_bring_in, cards_named}
use Rattle.card_sets.specs.Streets.{next_street}
use Rattle.betting_replay.specs.Streets.{same_street, is_drawing, begun_by_drawing, is_first, is_number}
use Rattle.betting_replay.specs.Sums.{is_last_of}
use Rattle.card_sets.specs.PlayerSets.{has_player}
use Rattle.betting_replay.specs.TableAfter.{ReplayState, chips_at, acts_at, own_at, table_of}
use Rattle.betting_replay.specs.Turns.{live_at, greatest, contender_count, has_chips, any_shown, may_act, owes_before, next_to_act, due, call_fits, raise_fits}
use Rattle.betting_replay.specs.AllIn.{funded_count}
use Rattle.betting_replay.specs.Returns.{return_fits, uncalled_due}
use Rattle.betting_replay.specs.Places.{is_board, is_free, first_twice, barred, with_given}

-- the fault, if a test fails
abbrev pub fault_if : Bool → BetFault → Option BetFault
fault_if test fault = if test then Some fault else None

-- a fault with its field
abbrev pub fault_with : (ℕ → BetFault) → Option ℕ → Option BetFault
fault_with fault None = None
fault_with fault (Some n) = Some (fault n)

-- 1: a post, an act, or a collection of a player who has folded; a post or an act of a player with no chips left; or a
-- collection of a seat without a player
unfoldable pub not_in_hand : ReplayState → Event → Option BetFault
not_in_hand t (Post seat kind units all_in) = fault_if ((acts_at t seat).folded || not (has_chips t seat)) NotInHand
not_in_hand t (Act seat act all_in shown) = fault_if ((acts_at t seat).folded || not (has_chips t seat)) NotInHand
not_in_hand t (Collect seat units pot) = fault_if ((acts_at t seat).folded || not (has_player t.players seat)) NotInHand
not_in_hand t _ = None

-- 2: an act while a player before the actor owes one; the first such seat
unfoldable pub out_of_turn : ReplayState → Event → Option BetFault
out_of_turn t (Act seat act all_in shown) = fault_with OutOfTurn (owes_before t seat)
out_of_turn t _ = None

-- 3: an act of a player who may not act
unfoldable pub nothing_owed : ReplayState → Event → Option BetFault
nothing_owed t (Act seat act all_in shown) = fault_if (not (may_act t seat)) NothingOwed
nothing_owed t _ = None

-- 4 to 7: a check below the greatest bet, a call of a wrong amount, a bet on a street that has one, or a raise of a
-- wrong amount
unfoldable pub act_amiss : ReplayState → ℕ → Deed → Option BetFault
act_amiss t seat Fold = None
act_amiss t seat Check = fault_if (nat_lt (live_at t seat) (greatest t)) (CheckFacingBet (due t seat))
act_amiss t seat (Call units) = fault_if (not (call_fits t seat units)) (CallAmount (due t seat))
act_amiss t seat (Bet units) = fault_if (nat_lt 0 (greatest t)) BetFacingBet
act_amiss t seat (Raise by to) = fault_if (not (raise_fits t by to)) (RaiseAmount (greatest t))

unfoldable pub amount_amiss : ReplayState → Event → Option BetFault
amount_amiss t (Act seat act all_in shown) = act_amiss t seat act
amount_amiss t _ = None

-- 8: more chips than the stack
unfoldable pub above_stack : ReplayState → Event → Option BetFault
above_stack t (Post seat kind units all_in) = fault_if (nat_lt (chips_at t seat).stack units) (AboveStack (chips_at t seat).stack)
above_stack t (Act seat act all_in shown) = fault_if (nat_lt (chips_at t seat).stack (act_chips act (live_at t seat))) (AboveStack (chips_at t seat).stack)
above_stack t _ = None

-- 9: the words that a player is all-in are there only if the stack becomes 0, and must be there if a call, a bet, or a
-- raise makes it 0
abbrev pub puts_in : Deed → Bool
puts_in Fold = false
puts_in Check = false
puts_in (Call units) = true
puts_in (Bet units) = true
puts_in (Raise by to) = true

unfoldable pub all_in_word : ReplayState → Event → Option BetFault
all_in_word t (Post seat kind units all_in) = fault_if (all_in && not (units == (chips_at t seat).stack)) AllInWord
all_in_word t (Act seat act all_in shown) =
    let empties = act_chips act (live_at t seat) == (chips_at t seat).stack in
    fault_if ((all_in && not empties) || (not all_in && puts_in act && empties)) AllInWord
all_in_word t _ = None

-- 10: a marker, a return, a collection, or the first discard or stand-pat of a draw that no marker began, while a
-- player owes an act
unfoldable pub street_early : ReplayState → Event → Option BetFault
street_early t (Street street number cards) = fault_with StreetEarly (next_to_act t)
street_early t (Uncalled seat units) = fault_with StreetEarly (next_to_act t)
street_early t (Collect seat units pot) = fault_with StreetEarly (next_to_act t)
street_early t (Discard seat count cards) = if is_some (begun_by_drawing t.header.game t.course.street) then fault_with StreetEarly (next_to_act t) else None
street_early t (Pat seat) = if is_some (begun_by_drawing t.header.game t.course.street) then fault_with StreetEarly (next_to_act t) else None
street_early t _ = None

-- 11: a marker that isn't the next of its game on its board, or that comes with fewer than two contenders; a showdown
-- out of order; a showdown or a summary before the last street with two or more contenders; or a discard or a stand-pat
-- on a street without a draw

-- a hand with a board may be run twice from the next street on, if the first street has begun and at most one contender
-- has chips left
unfoldable pub may_part : ReplayState → Bool
may_part t = has_board t.header.game && t.course.opened && nat_le (funded_count t) 1

-- the next street on a board, given the next street of the game; the only board has none once the hand is run twice,
-- and the first of two has one until there are markers of the second
abbrev pub next_only : Option StreetName → Option StreetName → Option StreetName
next_only None next = next
next_only (Some from) next = None

abbrev pub next_first : Bool → Option StreetName → BoardNumber → Option StreetName → Option StreetName
next_first may None marker next = if may then next else None
next_first may (Some from) board.Only next = None
next_first may (Some from) board.First next = next
next_first may (Some from) board.Second next = None

-- on the second board, the streets after the last street of the first board
abbrev pub next_second : Option StreetName → BoardNumber → Bool → Option StreetName → Option StreetName
next_second None marker last next = None
next_second (Some from) board.Only last next = None
next_second (Some from) board.First last next = if last then Some from else None
next_second (Some from) board.Second last next = next

abbrev pub next_on : ReplayState → BoardNumber → Option StreetName
next_on t board.Only = next_only t.course.split_from (next_street t.header.game t.course.street)
next_on t board.First = next_first (may_part t) t.course.split_from t.course.marker (next_street t.header.game t.course.street)
next_on t board.Second = next_second t.course.split_from t.course.marker (is_last_of t.header.game t.course.street) (next_street t.header.game t.course.street)

-- the last street has begun, on both boards if the hand is run twice
abbrev pub all_begun : ReplayState → Bool
all_begun t = t.course.last_begun && (is_none t.course.split_from || is_last_of t.header.game t.course.second_street)

abbrev pub may_end : ReplayState → Bool
may_end t = all_begun t || nat_lt (contender_count t) 2

-- a showdown marker comes once: that of the only or the first board, and that of the second board after one of these;
-- those of two boards come only if the hand is run twice
abbrev pub shows_next : ReplayState → BoardNumber → Bool
shows_next t board.Only = not (any_shown t.course.showdowns)
shows_next t board.First = is_some t.course.split_from && not (any_shown t.course.showdowns)
shows_next t board.Second = is_some t.course.split_from && any_shown t.course.showdowns && not t.course.showdowns.second

abbrev pub marker_stands : ReplayState → BoardNumber → StreetName → Bool
marker_stands t number ShowDown = shows_next t number && may_end t
marker_stands t number Summary = is_number board.Only number && may_end t
marker_stands t number street = same_street street (next_on t number) && nat_le 2 (contender_count t)

abbrev pub draw_stands : ReplayState → Bool
draw_stands t = is_drawing t.course.street || (is_some (begun_by_drawing t.header.game t.course.street) && nat_le 2 (contender_count t))

unfoldable pub street_order : ReplayState → Event → Option BetFault
street_order t (Street street number cards) = fault_if (not (marker_stands t number street)) StreetOrder
street_order t (Discard seat count cards) = fault_if (not (draw_stands t)) StreetOrder
street_order t (Pat seat) = fault_if (not (draw_stands t)) StreetOrder
street_order t _ = None

-- 12: a return of an amount that isn't uncalled, neither over the whole hand nor over the street
unfoldable pub uncalled_amiss : ReplayState → Event → Option BetFault
uncalled_amiss t (Uncalled seat units) = fault_if (not (return_fits t seat units)) (UncalledAmount (uncalled_due t))
uncalled_amiss t _ = None

-- 13: a card that belongs elsewhere, was discarded face up and may not come again, is twice in the bracket, or was
-- named before it comes on the board; the first such card
unfoldable pub card_twice : ReplayState → Event → Option BetFault
card_twice t e = fault_with CardTwice (first_twice (is_free t.named (own_at t (seat_of e)) (is_board e)) (barred t.header.game t.thrown) (cards_named e))

-- 14: a post after the marker of the first street, or a bring-in that isn't on the first street before its first act
unfoldable pub post_late : ReplayState → Event → Option BetFault
post_late t (Post seat kind units all_in) =
    fault_if (if is_bring_in kind then not (is_first t.course.street && is_none t.course.last_actor) else t.course.opened) PostLate
post_late t _ = None

-- 15: a second line of a seat
unfoldable pub seat_twice : ReplayState → Event → Option BetFault
seat_twice t (Seat seat units first end) = fault_if (chips_at t seat).seated SeatTwice
seat_twice t _ = None

-- 16: more cards than the game gives a seat: its own cards, and a full hand for each draw; a discarded card that may
-- come again no longer belongs to the seat
unfoldable pub too_many_cards : ReplayState → Event → Option BetFault
too_many_cards t e =
    if seat_of e == 0 then None
    else fault_if (nat_lt (most_owned t.header.game) (length (with_given t.header.game e (cards_named e) (own_at t (seat_of e))))) (TooManyCards (seat_of e))

-- the first fault
abbrev pub first_fault : List (Option BetFault) → Option BetFault
first_fault [] = None
first_fault (None ∷ tests) = first_fault tests
first_fault (Some fault ∷ tests) = Some fault

-- the tests in their order
abbrev pub tests : ReplayState → Event → List (Option BetFault)
tests t e =
    not_in_hand t e ∷ out_of_turn t e ∷ nothing_owed t e ∷ amount_amiss t e ∷ above_stack t e ∷ all_in_word t e
    ∷ street_early t e ∷ street_order t e ∷ uncalled_amiss t e ∷ card_twice t e ∷ post_late t e ∷ seat_twice t e ∷ too_many_cards t e ∷ []

-- the fault of the first test that an event fails at a table
unfoldable pub fault_at : ReplayState → Event → Option BetFault
fault_at t e = first_fault (tests t e)

-- the fault of an event after the events of a hand so far, or none
abbrev pub legal : Header → ℕ → List Event → Event → Option BetFault
legal header players h e = fault_at (table_of header players h) e

-- what a step returns
abbrev pub verdict : Option BetFault → Result (Unit {0}) BetFault
verdict None = Ok tt
verdict (Some fault) = Err fault
