-- Lines none of which departs: what holds after each, and that they end with a total.
use Rattle.std.proofs.Common.{◌≡◌, ℕ, ◌+◌, List, [], ◌∷◌, refl, sym, ap, ◌∙◌, subst, Bool, true, false, ◌==◌, not, ◌||◌, arith}
use Rattle.std.specs.Prelude.{Option, Some, None, Result, Ok, Err, IfOk, All, if◌then◌else◌}
use Rattle.std.specs.List.{list_any}
use Rattle.std.proofs.lemmas.List.Elements.{All-push}
use Rattle.hand_events.specs.declared.events.Header.{Header}
use Rattle.hand_events.specs.declared.events.Event.{Event}
use Rattle.hand_events.specs.declared.events.Event.TheVariants.{Seat, Collect, Total, SeatCards, Remark}
use Rattle.hand_events.specs.declared.events.Part.{Part}
use Rattle.hand_events.specs.declared.events.Part.TheVariants.{Preamble, Play, Summary as SummaryPart}
use Rattle.hand_events.specs.declared.events.TextFault.{TextFault}
use Rattle.history_text.specs.Within.{IsSeated, IsWithin, stands_in}
use Rattle.history_text.proofs.CallerLemmas.{line_fits, within, stands}
use Rattle.pot_layers.specs.Pots.{put_in_all}
use Rattle.betting_replay.specs.Seats.{or_else}
use Rattle.betting_replay.specs.Events.{SeatFits}
use Rattle.betting_replay.specs.Accepted.{IsAccepted}
use Rattle.betting_replay.specs.CardLaws.{MarkerFits, MarkersFit}
use Rattle.betting_replay.specs.Limits.{Fits}
use Rattle.betting_replay.specs.Faults.{legal}
use Rattle.hand_events.specs.declared.faults.BetFault.{BetFault}
use Rattle.hand_verdict.specs.declared.cause.Cause.{Cause}
use Rattle.hand_verdict.specs.declared.cause.Cause.TheVariants.{Chips, Unfinished}
use Rattle.hand_audit.specs.Settle.{beyond}
use Rattle.hand_audit.specs.Departs.{split_cause, is_total, bet_cause, total_cause, event_cause, end_cause, departs_from, departs_by, at_line, put_in_by, collected}
use Rattle.hand_audit.specs.Showings.{showing_of, rake}
use Rattle.hand_audit.specs.Lines.{SoFar, nothing, read_at, part_of, part_after, with_event, named_by}
use Rattle.hand_audit.specs.Collections.{taken, collections, collected_by}
use Rattle.hand_audit.specs.Verdict.{read_all}
use Rattle.hand_audit.specs.Chips.{IsBalanced}
use Rattle.hand_audit.proofs.lemmas.lines.EventRanges.{all_fit}
use Rattle.hand_audit.proofs.lemmas.chips.Collected.{AreSeats, seats_more as collected_more}
use Rattle.hand_audit.proofs.lemmas.chips.SummaryEvents.{IsQuiet, quiet, same_paid_in}

-- after some lines: names are of seats, and once a total stood the sums are right and only the summary is left
pub record Sound (g : Header) (players : ℕ) (so_far : SoFar) : Type 0 where
  pub seats : All IsSeated so_far.names
  pub part : list_any is_total so_far.events ≡ true → part_of so_far.events ≡ SummaryPart
  pub chips : list_any is_total so_far.events ≡ true → IsBalanced g players so_far.events
  pub collectors : AreSeats (collections so_far.events)
  pub accepted : IsAccepted g players so_far.events
  pub markers : MarkersFit g.game so_far.events

second : (a : Option Cause) (b : Option Cause) → or_else a b ≡ None → b ≡ None
second None b h = h
second (Some x) b h = cc

no_total : (g : Header) (players : ℕ) (h : List Event) (e : Event) → event_cause g players h e ≡ None → total_cause (put_in_by g players h) (collected h) e ≡ None
unfolding event_cause
no_total g players h e none = second _ _ none

total_both : (p c units rake : ℕ) → total_cause p c (Total units rake) ≡ None → (units ≡ p) × (units ≡ c + rake)
total_both p c units rake none = by (units == p) (units == c + rake) refl refl none
  where
    by : (a b : Bool) → (units == p) ≡ a → (units == c + rake) ≡ b
        → (if not a then Some (Chips units p) else (if not b then Some (Chips units (c + rake)) else None)) ≡ None → (units ≡ p) × (units ≡ c + rake)
    by true true ea eb h = let i : units ≡ p = grind arith in let j : units ≡ c + rake = grind arith in (i, j)
    by true false ea eb h = cc
    by false b ea eb h = cc

total_right : (p c units rake : ℕ) → total_cause p c (Total units rake) ≡ None → p ≡ c + rake
total_right p c units rake none = let both = total_both p c units rake none in sym both.0 ∙ both.1

pub total_even : (p c units rake : ℕ) → total_cause p c (Total units rake) ≡ None → units ≡ c + rake
total_even p c units rake none = (total_both p c units rake none).1

-- a quiet event leaves what was put in and what was collected
put_same : (g : Header) (players : ℕ) (h : List Event) (e : Event) → IsQuiet g h e → put_in_by g players (e ∷ h) ≡ put_in_by g players h
unfolding put_in_by
put_same g players h e q = ap put_in_all (same_paid_in g players h e q)

taken_same : (g : Header) (h : List Event) (e : Event) → IsQuiet g h e → collected (e ∷ h) ≡ collected h
unfolding collected
taken_same g h e q = ap taken q.collections

-- the event of a line in the summary
balanced_more : (g : Header) (players : ℕ) (h : List Event) (e : Event) → stands_in SummaryPart e ≡ true → event_cause g players h e ≡ None → (list_any is_total h ≡ true → IsBalanced g players h)
    → list_any is_total (e ∷ h) ≡ true → IsBalanced g players (e ∷ h)
balanced_more g players h (Total units rk) in_summary none old some =
    let q = quiet g h (Total units rk) in_summary in
    record { whole = put_same g players h _ q ∙ total_right _ _ units rk (no_total g players h (Total units rk) none) ∙ ap (λ n. n + rk) (sym (taken_same g h _ q)) }
balanced_more g players h (SeatCards seat cards) in_summary none old some =
    let q = quiet g h (SeatCards seat cards) in_summary in
    record { whole = put_same g players h _ q ∙ (old some).whole ∙ ap (λ n. n + rake h) (sym (taken_same g h _ q)) }
balanced_more g players h Remark in_summary none old some =
    let q = quiet g h Remark in_summary in
    record { whole = put_same g players h _ q ∙ (old some).whole ∙ ap (λ n. n + rake h) (sym (taken_same g h _ q)) }
balanced_more g players h _ in_summary none old some = cc

pub stays : (e : Event) → stands_in SummaryPart e ≡ true → part_after e SummaryPart ≡ SummaryPart
stays (Total units rk) is = refl
stays (SeatCards seat cards) is = refl
stays Remark is = refl
stays _ is = cc

-- a total stands in the summary alone
pub total_part : (part : Part) (e : Event) → stands_in part e ≡ true → is_total e ≡ true → part ≡ SummaryPart
total_part Preamble (Total units rk) s t = cc
total_part Play (Total units rk) s t = cc
total_part SummaryPart e s t = refl
total_part Preamble _ s t = cc
total_part Play _ s t = cc

in_summary_of : (h : List Event) (e : Event) → stands_in (part_of h) e ≡ true → (list_any is_total h ≡ true → part_of h ≡ SummaryPart) → list_any is_total (e ∷ h) ≡ true → part_of h ≡ SummaryPart
in_summary_of h e s old some = by (is_total e) (list_any is_total h) refl refl some
  where
    by : (a b : Bool) → is_total e ≡ a → list_any is_total h ≡ b → (a || b) ≡ true → part_of h ≡ SummaryPart
    by true b ea eb h' = total_part (part_of h) e s ea
    by false true ea eb h' = old eb
    by false false ea eb h' = cc

seats_more : (line : List ℕ) (e : Event) (names : List (ℕ × List ℕ)) → IsWithin line e → All IsSeated names → All IsSeated (named_by e line names)
seats_more line (Seat seat units first end) names w all = All-push IsSeated names _ all (w.0, w.1)
seats_more line _ names w all = all

pub no_fault : (g : Header) (players : ℕ) (h : List Event) (e : Event) → event_cause g players h e ≡ None → legal g players h e ≡ None
unfolding event_cause
no_fault g players h e none = by (legal g players h e) none
  where
    by : (o : Option BetFault) → or_else (bet_cause o) (total_cause (put_in_by g players h) (collected h) e) ≡ None → o ≡ None
    by None n = refl
    by (Some f) n = cc

-- who collects has a seat of the table
collects : (e : Event) → SeatFits e → AreSeats (collected_by e)
collects (Collect seat units pot) fits = (fits.0, fits.1, tt)
collects _ fits = tt

pub fits_of : (g : Header) (players : ℕ) (so_far : SoFar) (line : List ℕ) (e : Event) → Sound g players so_far → read_at g so_far line ≡ Ok e → Fits e
unfolding read_at
fits_of g players so_far line e s is = all_fit line (Ok e) (within line so_far.names g (part_of so_far.events) (Ok e) (sym is) s.seats)

pub sound_more : (g : Header) (players : ℕ) (so_far : SoFar) (line : List ℕ) (e : Event) → Sound g players so_far → read_at g so_far line ≡ Ok e → event_cause g players so_far.events e ≡ None → Sound g players (with_event line e so_far)
unfolding read_at
sound_more g players so_far line e s is none =
    let kind : stands_in (part_of so_far.events) e ≡ true = stands line so_far.names g (part_of so_far.events) (Ok e) (sym is) s.seats in
    let w : IsWithin line e = within line so_far.names g (part_of so_far.events) (Ok e) (sym is) s.seats in
    let fits : Fits e = all_fit line (Ok e) w in
    let legal_none : legal g players so_far.events e ≡ None = no_fault g players so_far.events e none in
    record {
      seats = seats_more line e so_far.names w s.seats;
      part = λ some. let p : part_of so_far.events ≡ SummaryPart = in_summary_of so_far.events e kind s.part some in
          let k : stands_in SummaryPart e ≡ true = subst (λ (q : Part). stands_in q e ≡ true) p kind in ap (part_after e) p ∙ stays e k;
      chips = λ some. let p : part_of so_far.events ≡ SummaryPart = in_summary_of so_far.events e kind s.part some in
          let k : stands_in SummaryPart e ≡ true = subst (λ (q : Part). stands_in q e ≡ true) p kind in balanced_more g players so_far.events e k none s.chips some;
      collectors = collected_more (collections so_far.events) (collected_by e) s.collectors (collects e fits.seats);
      accepted = (fits, legal_none, s.accepted);
      markers = (subst (λ (r : Result Event TextFault). IfOk r (MarkerFits g.game)) is (line_fits so_far.names g (part_of so_far.events) line), s.markers);
    }

pub no_bet : (number : ℕ) (a : Option Cause) (b : Option (ℕ × Cause)) → or_else (at_line number a) b ≡ None → (a ≡ None) × (b ≡ None)
no_bet number None b h = (refl, h)
no_bet number (Some c) b h = cc

pub sound_all : (g : Header) (players number : ℕ) (lines : List (List ℕ)) (so_far : SoFar) → Sound g players so_far → departs_from g players number so_far lines ≡ None
    → Sound g players (read_all g so_far lines) × (end_cause g players (read_all g so_far lines).events ≡ None)
sound_all g players number [] so_far s none = (s, last (end_cause g players so_far.events) none)
  where
    last : (o : Option Cause) → at_line number o ≡ None → o ≡ None
    last None h = refl
    last (Some c) h = cc
sound_all g players number (line ∷ lines) so_far s none =
    by (read_at g so_far line) refl (λ t u r. sound_all g players (number + 1) lines t u r) none
  where
    by : (o : Result Event TextFault) → read_at g so_far line ≡ o
        → ((t : SoFar) → Sound g players t → departs_from g players (number + 1) t lines ≡ None → Sound g players (read_all g t lines) × (end_cause g players (read_all g t lines).events ≡ None))
        → departs_by g players (number + 1) so_far.events o (λ e. departs_from g players (number + 1) (with_event line e so_far) lines) ≡ None
        → Sound g players (read_all g so_far (line ∷ lines)) × (end_cause g players (read_all g so_far (line ∷ lines)).events ≡ None)
    by (Err f) is go h = cc
    by (Ok e) is go h =
        let both = no_bet (number + 1) (event_cause g players so_far.events e) _ h in
        let here : read_all g so_far (line ∷ lines) ≡ read_all g (with_event line e so_far) lines = rw is refl in
        subst (λ (t : SoFar). Sound g players t × (end_cause g players t.events ≡ None)) (sym here) (go (with_event line e so_far) (sound_more g players so_far line e s is both.0) both.1)

pub has_total : (g : Header) (players : ℕ) (h : List Event) → end_cause g players h ≡ None → list_any is_total h ≡ true
unfolding end_cause
has_total g players h none = by (list_any is_total h) refl none
  where
    by : (b : Bool) → list_any is_total h ≡ b → (if b then split_cause (beyond (showing_of g players h)) else Some Unfinished) ≡ None → list_any is_total h ≡ true
    by true e n = e
    by false e n = cc

pub start : (g : Header) (players : ℕ) → Sound g players nothing
start g players = record { seats = λ k d l. absurd (omega (arith, l)); part = λ h. cc; chips = λ h. cc; collectors = tt; accepted = tt; markers = tt }
