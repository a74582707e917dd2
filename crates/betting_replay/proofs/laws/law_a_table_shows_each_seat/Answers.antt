use Rattle.std.proofs.Common.{◌≡◌, ◌<◌, ap, ℕ, List}
use Rattle.hand_events.specs.declared.events.Header.{Header}
use Rattle.hand_events.specs.declared.events.Event.{Event}
use Rattle.betting_replay.specs.declared.seats.SeatState.{SeatState}
use Rattle.betting_replay.specs.Table.{seat_at, holding_at, final_at, known_at}
use Rattle.betting_replay.specs.TableAfter.{table_of, point, seat_state}
use Rattle.betting_replay.specs.Places.{thrown}
use Rattle.betting_replay.specs.Known.{holding_of, final_by, known_by}
use Rattle.betting_replay.proofs.lemmas.seats.SeatStates.{seat_is, chips_are, acts_are, own_is}
use Rattle.betting_replay.proofs.laws.law_a_table_shows_each_seat.Goals as goal

held : (header : Header) (players : ℕ) (h : List Event) (p : ℕ) → p < 11 → holding_at (table_of header players h) p ≡ holding_of header h p
held header players h p small =
    let is : seat_at (table_of header players h) p ≡ seat_state header h p = seat_is header players h (point header players h) p small in
    ap (λ (s : SeatState). record { own = s.own; dealt = s.dealt; held = s.held; shown = s.shown; deals = s.deals; row = s.seven_shown; draws = s.draws; last = s.last_draw; thrown = thrown h }) is

pub returns : goal.returns
unfolding final_at known_at
returns c header players h p small = record {
  chips = chips_are header players h (point header players h) p small;
  acts = acts_are header players h (point header players h) p small;
  own = own_is header players h (point header players h) p small;
  final = ap (final_by header.game) (held header players h p small);
  known = λ street. ap (λ x. known_by header.game x street) (held header players h p small);
}
