-- What one line makes of what is kept of a hand, and what its end does.
use Rattle.std.proofs.Common.{◌≡◌, ℕ, ◌+◌, ◌==◌, append-nil, List, [], ◌∷◌, ◌++◌, refl, sym, ap, ◌∙◌, subst, true, false, ◌||◌}
use Rattle.std.specs.Prelude.{Option, Some, None, is_some, Result, Ok, Err, All, Bool, ◌&&◌, not, if◌then◌else◌}
use Rattle.std.specs.List.{list_any}
use Rattle.std.proofs.lemmas.List.Elements.{All-push}
use Rattle.hand_events.specs.declared.events.Header.{Header}
use Rattle.hand_events.specs.declared.events.Event.{Event}
use Rattle.hand_events.specs.declared.events.Event.TheVariants.{Remark, Seat, Total}
use Rattle.hand_events.specs.declared.events.TextFault.{TextFault}
use Rattle.hand_events.specs.declared.faults.BetFault.{BetFault}
use Rattle.betting_replay.specs.Events.{SeatFits}
use Rattle.betting_replay.specs.CardLaws.{MarkerFits, MarkersFit}
use Rattle.betting_replay.specs.Later.{listed, later_begun, later_by}
use Rattle.betting_replay.specs.Limits.{Fits}
use Rattle.betting_replay.specs.TableAfter.{StandsFor, table_of}
use Rattle.betting_replay.specs.Faults.{legal, verdict}
use Rattle.betting_replay.specs.Turns.{any_shown}
use Rattle.betting_replay.proofs.CallerLemmas.{no_fault, remark_kept, remark_stands}
use Rattle.hand_events.specs.declared.events.Part.TheVariants.{Summary as SummaryPart}
use Rattle.betting_replay.specs.Accepted.{IsAccepted}
use Rattle.betting_replay.specs.Table.{ReplayState}
use Rattle.pot_layers.specs.Pots.{pots, put_in_all}
use Rattle.hand_audit.specs.Winning.{AreDecided}
use Rattle.hand_verdict.specs.declared.cause.Cause.{Cause}
use Rattle.hand_verdict.specs.declared.cause.Cause.TheVariants.{Text, Bet, Chips, Unfinished}
use Rattle.hand_audit.specs.declared.hand.AuditState.{AuditState}
use Rattle.hand_audit.specs.Lines.{SoFar, part_after, part_of, read_at, named_by}
use Rattle.hand_audit.specs.Collections.{collected_by, taken}
use Rattle.hand_audit.specs.Showings.{paid_in, rake_by, showing_at, showing_of}
use Rattle.betting_replay.specs.Seats.{or_else}
use Rattle.hand_audit.specs.Departs.{is_total, bet_cause, total_cause, event_cause, end_cause, split_cause, is_split, put_in_by, collected}
use Rattle.hand_audit.specs.Settle.{Showing, beyond}
use Rattle.card_sets.specs.declared.games.Game.{Game}
use Rattle.card_sets.specs.declared.streets.Street.{Street}
use Rattle.hand_verdict.specs.declared.settlement.Payment.{Payment}
use Rattle.hand_audit.specs.declared.settling.HandSettled.{HandSettled}
use Rattle.hand_audit.specs.SettlementAnswers.{IsOfHand}
use Rattle.hand_audit.specs.Keeping.{Keeps, Goes, EndsAs}
use Rattle.history_text.specs.Within.{IsSeated}

-- the counts are those of the lines so far
counts_is : (hand : AuditState) (g : Header) (players : ℕ) (so_far : SoFar) (e : Event) → Keeps hand g players so_far
    → total_cause (put_in_all (paid_in hand.replay)) (taken hand.collections.items) e ≡ total_cause (put_in_by g players so_far.events) (collected so_far.events) e
unfolding put_in_by collected
counts_is hand g players so_far e k = rw (k.stands.is, k.collections) refl

failed : (o : Option BetFault) (f : BetFault) → verdict o ≡ Err f → o ≡ Some f
failed None f h = cc
failed (Some x) f h = cc

event_bet : (g : Header) (players : ℕ) (h : List Event) (e : Event) (f : BetFault) → verdict (legal g players h e) ≡ Err f → event_cause g players h e ≡ Some (Bet f)
unfolding event_cause
event_bet g players h e f is = let l : legal g players h e ≡ Some f = failed (legal g players h e) f is in rw l refl

event_total : (g : Header) (players : ℕ) (h : List Event) (e : Event) (u : Unit {0}) (o : Option Cause) → verdict (legal g players h e) ≡ Ok u → total_cause (put_in_by g players h) (collected h) e ≡ o → event_cause g players h e ≡ o
unfolding event_cause
event_total g players h e u o is total = let l : legal g players h e ≡ None = no_fault (legal g players h e) u is in rw (l, total) refl

-- a line that can't be read
pub goes_text : (new hand : AuditState) (g : Header) (players : ℕ) (so_far : SoFar) (line : List ℕ) (f : TextFault) → Keeps hand g players so_far
    → read_at g so_far line ≡ Err f → Goes new g players so_far line (read_at g so_far line) (Some (Text f))
goes_text new hand g players so_far line f k is = subst (λ (r : Result Event TextFault). Goes new g players so_far line r (Some (Text f))) (sym is) refl

-- a line whose event may not stand
pub goes_bet : (new hand : AuditState) (g : Header) (players : ℕ) (so_far : SoFar) (line : List ℕ) (e : Event) (f : BetFault) → Keeps hand g players so_far
    → read_at g so_far line ≡ Ok e → verdict (legal g players so_far.events e) ≡ Err f → Goes new g players so_far line (read_at g so_far line) (Some (Bet f))
goes_bet new hand g players so_far line e f k is bet =
    subst (λ (r : Result Event TextFault). Goes new g players so_far line r (Some (Bet f))) (sym is) (event_bet g players so_far.events e f bet)

-- a total line that is wrong
pub goes_total : (new hand : AuditState) (g : Header) (players : ℕ) (so_far : SoFar) (line : List ℕ) (e : Event) (u : Unit {0}) (c : Cause) → Keeps hand g players so_far
    → read_at g so_far line ≡ Ok e → verdict (legal g players so_far.events e) ≡ Ok u
    → total_cause (put_in_all (paid_in hand.replay)) (taken hand.collections.items) e ≡ Some c → Goes new g players so_far line (read_at g so_far line) (Some c)
goes_total new hand g players so_far line e u c k is bet total =
    subst (λ (r : Result Event TextFault). Goes new g players so_far line r (Some c)) (sym is)
    (event_total g players so_far.events e u (Some c) bet (sym (counts_is hand g players so_far e k) ∙ total))

pub seats_more : (e : Event) (line : List ℕ) (names : List (ℕ × List ℕ)) → SeatFits e → All IsSeated names → All IsSeated (named_by e line names)
seats_more (Seat seat units first end) line names fits all = All-push IsSeated names _ all (fits.0, fits.1)
seats_more _ line names fits all = all

-- a line that may stand
pub goes_on : (new hand : AuditState) (g : Header) (players : ℕ) (so_far : SoFar) (line : List ℕ) (e : Event) (u : Unit {0}) → Keeps hand g players so_far
    → read_at g so_far line ≡ Ok e → verdict (legal g players so_far.events e) ≡ Ok u
    → total_cause (put_in_all (paid_in hand.replay)) (taken hand.collections.items) e ≡ None
    → Fits e → MarkerFits g.game e → StandsFor new.replay g players (e ∷ so_far.events) → new.part ≡ part_after e hand.part
    → new.collections.items ≡ hand.collections.items ++ collected_by e → new.streets.items ≡ hand.streets.items ++ listed (later_begun hand.replay e) → new.rake ≡ rake_by e hand.rake
    → new.total ≡ (is_total e || hand.total)
    → Goes new g players so_far line (read_at g so_far line) None
goes_on new hand g players so_far line e u k is bet total fits marker stands part all noted rake' total' =
    subst (λ (r : Result Event TextFault). Goes new g players so_far line r None) (sym is) (
      event_total g players so_far.events e u None bet (sym (counts_is hand g players so_far e k) ∙ total),
      record {
        stands = stands;
        part = part ∙ ap (part_after e) k.part;
        collections = all ∙ ap (λ xs. xs ++ collected_by e) k.collections;
        streets = noted ∙ ap (λ (t : ReplayState). hand.streets.items ++ listed (later_begun t e)) k.stands.is
            ∙ ap (λ (xs : List Street). xs ++ listed (later_begun (table_of g players so_far.events) e)) k.streets;
        rake = rake' ∙ ap (rake_by e) k.rake;
        total = total' ∙ ap (λ b. is_total e || b) k.total;
        seats = seats_more e line so_far.names fits.seats k.seats;
        accepted = (fits, no_fault (legal g players so_far.events e) u bet, k.accepted);
        markers = (marker, k.markers);
      },
    )

-- a remark begins no street
none_listed : (t : ReplayState) → listed (later_begun t Remark) ≡ []
none_listed t = by (is_some t.point) (any_shown t.course.showdowns)
  where
    by : (a b : Bool) → listed (if a && not b then later_by t.header.game t.course.street Remark else None) ≡ []
    by true true = refl
    by true false = refl
    by false b = refl

-- a remark may stand anywhere, and what is kept stands for it too
pub goes_remark : (hand : AuditState) (g : Header) (players : ℕ) (so_far : SoFar) (line : List ℕ) → Keeps hand g players so_far
    → read_at g so_far line ≡ Ok Remark → Fits Remark → MarkerFits g.game Remark → Goes hand g players so_far line (read_at g so_far line) None
goes_remark hand g players so_far line k is fits marker =
    goes_on hand hand g players so_far line Remark tt k is (ap verdict (remark_stands (table_of g players so_far.events))) refl fits marker
    (remark_kept hand.replay g players so_far.events k.stands) refl (sym (append-nil hand.collections.items))
    (sym (ap (λ xs. hand.streets.items ++ xs) (none_listed hand.replay) ∙ append-nil hand.streets.items)) refl refl

-- a line that departs for what it says doesn't depart for a payment
total_no_split : (put taken : ℕ) (e : Event) (c : Cause) → total_cause put taken e ≡ Some c → is_split c ≡ false
total_no_split put taken (Total units stated) c h = by (units == put) (units == taken + stated) h
  where
    by : (a b : Bool) → (if not a then Some (Chips units put) else (if not b then Some (Chips units (taken + stated)) else None)) ≡ Some c → is_split c ≡ false
    by false b h = let same : c ≡ Chips units put = cc in rw same refl
    by true false h = let same : c ≡ Chips units (taken + stated) = cc in rw same refl
    by true true h = cc
total_no_split put taken _ c h = cc

event_no_split : (g : Header) (players : ℕ) (h : List Event) (e : Event) (c : Cause) → event_cause g players h e ≡ Some c → is_split c ≡ false
unfolding event_cause
event_no_split g players h e c is = by (legal g players h e) is
  where
    by : (o : Option BetFault) → or_else (bet_cause o) (total_cause (put_in_by g players h) (collected h) e) ≡ Some c → is_split c ≡ false
    by None is = total_no_split (put_in_by g players h) (collected h) e c is
    by (Some fault) is = let same : c ≡ Bet fault = cc in rw same refl

pub goes_no_split : (new : AuditState) (g : Header) (players : ℕ) (so_far : SoFar) (line : List ℕ) (said : Result Event TextFault) (c : Cause) → Goes new g players so_far line said (Some c) → is_split c ≡ false
goes_no_split new g players so_far line (Err fault) c h = let same : c ≡ Text fault = cc in rw same refl
goes_no_split new g players so_far line (Ok e) c h = event_no_split g players so_far.events e c h

-- the end of a hand without a total line, and with one
pub unfinished : (hand : AuditState) (g : Header) (players : ℕ) (so_far : SoFar) → Keeps hand g players so_far → hand.total ≡ false → end_cause g players so_far.events ≡ Some Unfinished
unfolding end_cause
unfinished hand g players so_far k none = let t : list_any is_total so_far.events ≡ false = sym k.total ∙ none in rw t refl

pub showing_kept : (hand : AuditState) (g : Header) (players : ℕ) (so_far : SoFar) (game : Game) → Keeps hand g players so_far → g.game ≡ game → showing_at game hand.replay hand.collections.items ≡ showing_of g players so_far.events
unfolding showing_of
showing_kept hand g players so_far game k same =
    ap (λ x. showing_at x hand.replay hand.collections.items) (sym same) ∙ ap (λ t. showing_at g.game t hand.collections.items) k.stands.is
    ∙ ap (showing_at g.game (table_of g players so_far.events)) k.collections

split_is : (hand : AuditState) (g : Header) (players : ℕ) (so_far : SoFar) (first : Option Payment) → Keeps hand g players so_far → hand.total ≡ true → beyond (showing_of g players so_far.events) ≡ first → end_cause g players so_far.events ≡ split_cause first
unfolding end_cause
split_is hand g players so_far first k some is = let t : list_any is_total so_far.events ≡ true = sym k.total ∙ some in rw (t, is) refl

-- after an accepted hand's total line each pot is decided
abbrev pub DecidesPots : Type 0
DecidesPots = (g : Header) (players : ℕ) (h : List Event) → IsAccepted g players h → MarkersFit g.game h → part_of h ≡ SummaryPart → AreDecided (showing_of g players h) (pots (paid_in (table_of g players h)))

decided_kept : (hand : AuditState) (g : Header) (players : ℕ) (so_far : SoFar) (game : Game) → Keeps hand g players so_far → g.game ≡ game → DecidesPots → hand.part ≡ SummaryPart
    → AreDecided (showing_at game hand.replay hand.collections.items) (pots (paid_in hand.replay))
decided_kept hand g players so_far game k same decides ended =
    subst (λ (t : ReplayState). AreDecided (showing_at game hand.replay hand.collections.items) (pots (paid_in t))) (sym k.stands.is)
    (subst (λ (s : Showing). AreDecided s (pots (paid_in (table_of g players so_far.events)))) (sym (showing_kept hand g players so_far game k same)) (decides g players so_far.events k.accepted k.markers (sym k.part ∙ ended)))

pub settles : (hand : AuditState) (g : Header) (players : ℕ) (so_far : SoFar) (game : Game) (settled : HandSettled) → Keeps hand g players so_far → g.game ≡ game → hand.total ≡ true
    → DecidesPots → hand.part ≡ SummaryPart → (AreDecided (showing_at game hand.replay hand.collections.items) (pots (paid_in hand.replay)) → IsOfHand (showing_at game hand.replay hand.collections.items) settled) → EndsAs g players so_far.events (Ok settled)
settles hand g players so_far game settled k same some decides ended is =
    let s : IsOfHand (showing_of g players so_far.events) settled = subst (λ (x : Showing). IsOfHand x settled) (showing_kept hand g players so_far game k same) (is (decided_kept hand g players so_far game k same decides ended)) in
    record {
      cause = split_is hand g players so_far settled.beyond k some (sym s.beyond);
      is = s;
    }
