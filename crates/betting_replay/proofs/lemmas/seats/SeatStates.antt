-- What a table has at a seat is what the events make of the seat.
use Rattle.std.proofs.Common.{◌≡◌, ℕ, ◌<◌, List, ap}
use Rattle.std.specs.Prelude.{Option}
use Rattle.hand_events.specs.declared.events.Header.{Header}
use Rattle.hand_events.specs.declared.events.Event.{Event}
use Rattle.betting_replay.specs.declared.points.Point.{Point}
use Rattle.betting_replay.specs.declared.seats.SeatState.{SeatState}
use Rattle.betting_replay.specs.Places.{owned}
use Rattle.betting_replay.specs.TableAfter.{table_with, seat_state, chips_of, acts_of, no_seat, seat_at, chips_at, acts_at, own_at}
use Rattle.betting_replay.proofs.lemmas.seats.SeatLists.{at_by_seat}

pub seat_is : (g : Header) (players : ℕ) (h : List Event) (x : Option Point) (p : ℕ) → p < 11 → seat_at (table_with g players h x) p ≡ seat_state g h p
seat_is g players h x p small = at_by_seat (seat_state g h) p no_seat small

pub chips_are : (g : Header) (players : ℕ) (h : List Event) (x : Option Point) (p : ℕ) → p < 11 → chips_at (table_with g players h x) p ≡ chips_of g h p
chips_are g players h x p small = ap (λ (s : SeatState). s.chips) (seat_is g players h x p small)

pub acts_are : (g : Header) (players : ℕ) (h : List Event) (x : Option Point) (p : ℕ) → p < 11 → acts_at (table_with g players h x) p ≡ acts_of g h p
acts_are g players h x p small = ap (λ (s : SeatState). s.acts) (seat_is g players h x p small)

pub own_is : (g : Header) (players : ℕ) (h : List Event) (x : Option Point) (p : ℕ) → p < 11 → own_at (table_with g players h x) p ≡ owned g.game h p
own_is g players h x p small = ap (λ (s : SeatState). s.own) (seat_is g players h x p small)
