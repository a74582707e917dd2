-- What a table has at a seat is what the events say that the seat had and put in: `HandRead::chips`.
use Rattle.std.proofs.Common.{◌≡◌, ℕ, ◌+◌, ◌<◌, ◌^◌, List, [], ◌∷◌, refl, sym, ap, ◌∙◌, subst, Bool, true, false, ◌==◌, ◌&&◌, length, arith}
use Rattle.std.specs.Prelude.{if◌then◌else◌, Ok}
use Rattle.hand_events.specs.declared.events.Header.{Header}
use Rattle.hand_events.specs.declared.events.Event.{Event}
use Rattle.hand_events.specs.declared.events.Event.TheVariants.{Seat}
use Rattle.history_text.specs.Headers.{header_of}
use Rattle.betting_replay.specs.Accepted.{IsAccepted, opening}
use Rattle.betting_replay.specs.Accounts.{stack_at}
use Rattle.betting_replay.specs.Events.{bought, is_seat_line, seat_of}
use Rattle.betting_replay.specs.Limits.{AmountsFit}
use Rattle.betting_replay.specs.Seats.{by_seat}
use Rattle.betting_replay.specs.Sums.{paid, dead, stack}
use Rattle.betting_replay.specs.TableAfter.{table_of, point}
use Rattle.betting_replay.proofs.CallerLemmas.{at_by_seat, chips_are, chips_stay}
use Rattle.hand_audit.specs.declared.hand.AuditState.{AuditState}
use Rattle.hand_verdict.specs.declared.seat_chips.SeatChips.{SeatChips}
use Rattle.hand_audit.specs.Keeping.{Keeps}
use Rattle.hand_audit.specs.Lines.{SoFar}
use Rattle.hand_audit.specs.SeatChips.{AreWithin, all_chips_on, chips_after, chips_behind, chips_in, chips_on, put_on, seat_chips}
use Rattle.hand_audit.specs.Verdict.{events_of}
use Rattle.hand_audit.proofs.lemmas.chips.SummaryEvents.{paid_is}
use Rattle.hand_audit.proofs.lemmas.seats.SeatLists.{by_seat_is}

bought_few : (e : Event) → AmountsFit e → bought e < 10 ^ 15
bought_few (Seat seat units first end) fits = fits
bought_few _ fits = omega arith

opening_few : (g : Header) (players : ℕ) (h : List Event) (p : ℕ) → IsAccepted g players h → opening h p < 10 ^ 15
opening_few g players [] p ok = omega arith
opening_few g players (e ∷ h) p ok = by ((seat_of e == p) && is_seat_line e) (bought_few e ok.0.amounts) (opening_few g players h p ok.2)
  where
    by : (b : Bool) → bought e < 10 ^ 15 → opening h p < 10 ^ 15 → (if b then bought e else opening h p) < 10 ^ 15
    by true here before = here
    by false here before = before

-- a seat of the table after accepted events
pub put_is : (g : Header) (players : ℕ) (h : List Event) (p : ℕ) → p < 11 → put_on (table_of g players h) p ≡ paid g h p + dead g h p
put_is g players h p small = ap (λ x. x.live + x.dead) (paid_is g players h p small)

pub had_is : (g : Header) (players : ℕ) (h : List Event) (p : ℕ) → IsAccepted g players h → p < 11 → stack_at (table_of g players h) p + put_on (table_of g players h) p ≡ opening h p
had_is g players h p ok small =
    let left : stack_at (table_of g players h) p ≡ stack g h p = ap (λ c. c.stack) (chips_are g players h (point g players h) p small) in
    let put : put_on (table_of g players h) p ≡ paid g h p + dead g h p = put_is g players h p small in
    let all : stack g h p + paid g h p + dead g h p ≡ opening h p = chips_stay g players h p ok in
    omega (arith, left, put, all)

seat_is : (g : Header) (players : ℕ) (h : List Event) (p : ℕ) → IsAccepted g players h → p < 11 → chips_on (table_of g players h) p ≡ seat_chips g h p
seat_is g players h p ok small =
    let had = had_is g players h p ok small in
    let put = put_is g players h p small in
    λ i. record { had = had i; put = put i }

ten_and_none : (f : ℕ → SeatChips) → length (by_seat f) ≡ 11
unfolding by_seat
ten_and_none f = refl

nothing : SeatChips
nothing = record { had = 0; put = 0 }

all_is : (g : Header) (players : ℕ) (h : List Event) → IsAccepted g players h → all_chips_on (table_of g players h) ≡ chips_after g h
all_is g players h ok =
    let t = table_of g players h in
    by_seat_is (seat_chips g h) nothing (by_seat (chips_on t)) (ten_and_none (chips_on t)) (λ p small. at_by_seat (chips_on t) p nothing small ∙ seat_is g players h p ok small)

within : (g : Header) (players : ℕ) (h : List Event) → IsAccepted g players h → AreWithin (table_of g players h)
within g players h ok = record {
  seats = λ p small.
      let had = had_is g players h p ok small in
      let few = opening_few g players h p ok in
      omega (arith, had, few);
}

-- so of what is kept of the lines
pub within_kept : (hand : AuditState) (g : Header) (players : ℕ) (so_far : SoFar) → Keeps hand g players so_far → AreWithin hand.replay
within_kept hand g players so_far k = subst AreWithin (sym k.stands.is) (within g players so_far.events k.accepted)

pub chips_kept : (hand : AuditState) (g : Header) (players : ℕ) (so_far : SoFar) → Keeps hand g players so_far → all_chips_on hand.replay ≡ chips_after g so_far.events
chips_kept hand g players so_far k = ap all_chips_on k.stands.is ∙ all_is g players so_far.events k.accepted

-- and these are those of the hand
pub chips_are_in : (all : List (List ℕ)) (line : List ℕ) (rest : List (List ℕ)) (g : Header) → all ≡ line ∷ rest → header_of line ≡ Ok g → chips_after g (events_of g rest) ≡ chips_in all
chips_are_in all line rest g is read = sym (ap chips_in is ∙ ap (chips_behind rest) read)
