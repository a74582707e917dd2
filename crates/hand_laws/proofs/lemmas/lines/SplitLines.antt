-- Lines of which the last departs for a payment: what holds after them all.
use Rattle.std.proofs.Common.{◌≡◌, ℕ, ◌+◌, List, [], ◌∷◌, refl, sym, ap, ◌∙◌, subst, Bool, true, false, ◌==◌, not}
use Rattle.std.specs.Prelude.{Option, Some, None, Result, Ok, Err, if◌then◌else◌}
use Rattle.std.specs.List.{list_any}
use Rattle.history_text.specs.Headers.{header_of}
use Rattle.hand_events.specs.declared.events.Header.{Header}
use Rattle.hand_events.specs.declared.events.Event.{Event}
use Rattle.hand_events.specs.declared.events.Event.TheVariants.{Total}
use Rattle.hand_events.specs.declared.events.TextFault.{TextFault}
use Rattle.pot_layers.specs.Pots.{pots}
use Rattle.betting_replay.specs.Seats.{or_else}
use Rattle.betting_replay.specs.Faults.{legal}
use Rattle.hand_events.specs.declared.faults.BetFault.{BetFault}
use Rattle.hand_verdict.specs.declared.cause.Cause.{Cause}
use Rattle.hand_verdict.specs.declared.cause.Cause.TheVariants.{Text, Bet, Chips, Unfinished}
use Rattle.hand_verdict.specs.declared.verdicts.HandAudit.TheVariants.{Rejected}
use Rattle.hand_audit.specs.Departs.{at_line, bet_cause, collected, departs, departs_behind, departs_by, departs_from, end_cause, event_cause, is_split, is_total, put_in_by, split_cause, total_cause}
use Rattle.hand_audit.specs.Lines.{SoFar, nothing, players_of, read_at, with_event}
use Rattle.hand_audit.specs.PotNames.{fits}
use Rattle.hand_audit.specs.Settle.{Showing, beyond, beyond_if}
use Rattle.hand_audit.specs.Showings.{showing_of}
use Rattle.hand_audit.specs.Verdict.{audit_behind, audit_of, judged, read_all}
use Rattle.hand_audit.proofs.CallerLemmas.{Sound, sound_more}

-- the cause for which a line departs
abbrev cause_in : Option (ℕ × Cause) → Option Cause
cause_in None = None
cause_in (Some at) = Some at.1

same_cause : (c d : Cause) → Some c ≡ Some d → c ≡ d
same_cause c d h = cc

-- a line departs for no payment but after all of them
no_total_split : (p k : ℕ) (e : Event) (c : Cause) → total_cause p k e ≡ Some c → is_split c ≡ false
no_total_split p k (Total units rake) c h = by (units == p) (units == k + rake) h
  where
    by : (a b : Bool) → (if not a then Some (Chips units p) else (if not b then Some (Chips units (k + rake)) else None)) ≡ Some c → is_split c ≡ false
    by true true h = cc
    by true false h = ap is_split (sym (same_cause (Chips units (k + rake)) c h))
    by false b h = ap is_split (sym (same_cause (Chips units p) c h))
no_total_split p k _ c h = cc

no_event_split : (g : Header) (players : ℕ) (h : List Event) (e : Event) (c : Cause) → event_cause g players h e ≡ Some c → is_split c ≡ false
unfolding event_cause
no_event_split g players h e c is = by (legal g players h e) is
  where
    by : (o : Option BetFault) → or_else (bet_cause o) (total_cause (put_in_by g players h) (collected h) e) ≡ Some c → is_split c ≡ false
    by None is = no_total_split (put_in_by g players h) (collected h) e c is
    by (Some f) is = ap is_split (sym (same_cause (Bet f) c is))

record Goes (o : Option Cause) (rest : Option (ℕ × Cause)) (n : ℕ) (c : Cause) : Type 0 where
  none : o ≡ None
  later : rest ≡ Some (n, c)

goes_on : (number n : ℕ) (o : Option Cause) (rest : Option (ℕ × Cause)) (c : Cause) → is_split c ≡ true → ((d : Cause) → o ≡ Some d → is_split d ≡ false) → or_else (at_line number o) rest ≡ Some (n, c) → Goes o rest n c
goes_on number n None rest c split bare h = record { none = refl; later = h }
goes_on number n (Some d) rest c split bare h =
    let same : d ≡ c = same_cause d c (ap cause_in h) in
    let not_one : is_split d ≡ false = bare d refl in
    let one : is_split d ≡ true = ap is_split same ∙ split in
    cc

-- so what holds after lines none of which departs holds after these
pub sound_split : (g : Header) (players number : ℕ) (lines : List (List ℕ)) (so_far : SoFar) (n : ℕ) (c : Cause) → Sound g players so_far → is_split c ≡ true → departs_from g players number so_far lines ≡ Some (n, c)
    → Sound g players (read_all g so_far lines) × (end_cause g players (read_all g so_far lines).events ≡ Some c)
sound_split g players number [] so_far n c s split at = (s, last (end_cause g players so_far.events) at)
  where
    last : (o : Option Cause) → at_line number o ≡ Some (n, c) → o ≡ Some c
    last None h = cc
    last (Some d) h = ap cause_in h
sound_split g players number (line ∷ lines) so_far n c s split at =
    by (read_at g so_far line) refl (λ t u r. sound_split g players (number + 1) lines t n c u split r) at
  where
    by : (o : Result Event TextFault) → read_at g so_far line ≡ o
        → ((t : SoFar) → Sound g players t → departs_from g players (number + 1) t lines ≡ Some (n, c) → Sound g players (read_all g t lines) × (end_cause g players (read_all g t lines).events ≡ Some c))
        → departs_by g players (number + 1) so_far.events o (λ e. departs_from g players (number + 1) (with_event line e so_far) lines) ≡ Some (n, c)
        → Sound g players (read_all g so_far (line ∷ lines)) × (end_cause g players (read_all g so_far (line ∷ lines)).events ≡ Some c)
    by (Err f) is go h =
        let same : Text f ≡ c = same_cause (Text f) c (ap cause_in h) in
        let one : is_split (Text f) ≡ true = ap is_split same ∙ split in
        cc
    by (Ok e) is go h =
        let both = goes_on (number + 1) n (event_cause g players so_far.events e) _ c split (λ d x. no_event_split g players so_far.events e d x) h in
        let here : read_all g so_far (line ∷ lines) ≡ read_all g (with_event line e so_far) lines = rw is refl in
        subst (λ (t : SoFar). Sound g players t × (end_cause g players t.events ≡ Some c)) (sym here) (go (with_event line e so_far) (sound_more g players so_far line e s is both.none) both.later)

-- a total stood, and the names of the collections fit the pots
pub record EndsSplit (g : Header) (players : ℕ) (h : List Event) : Type 0 where
  pub total : list_any is_total h ≡ true
  pub fit : fits (pots (showing_of g players h).paid) (showing_of g players h).collections ≡ true

fit_beyond : (s : Showing) (c : Cause) → split_cause (beyond s) ≡ Some c → fits (pots s.paid) s.collections ≡ true
unfolding beyond
fit_beyond s c is = by (fits (pots s.paid) s.collections) is
  where
    by : (b : Bool) → split_cause (beyond_if b s (pots s.paid)) ≡ Some c → b ≡ true
    by true h = refl
    by false h = cc

pub ends_split : (g : Header) (players : ℕ) (h : List Event) (c : Cause) → is_split c ≡ true → end_cause g players h ≡ Some c → EndsSplit g players h
unfolding end_cause
ends_split g players h c split is = by (list_any is_total h) refl is
  where
    by : (b : Bool) → list_any is_total h ≡ b → (if b then split_cause (beyond (showing_of g players h)) else Some Unfinished) ≡ Some c → EndsSplit g players h
    by true e is = record { total = e; fit = fit_beyond (showing_of g players h) c is }
    by false e is =
        let same : Unfinished ≡ c = same_cause Unfinished c is in
        let one : is_split Unfinished ≡ true = ap is_split same ∙ split in
        cc

-- the line of a rejected hand that departs
pub rejected_is : (number : ℕ) (line : List ℕ) (lines : List (List ℕ)) (g : Header) (n : ℕ) (c : Cause) (hundredths : Bool) → header_of line ≡ Ok g
    → audit_of number (line ∷ lines) ≡ Some (Rejected n c hundredths) → departs_from g (players_of g lines) number nothing lines ≡ Some (n, c)
unfolding departs
rejected_is number line lines g n c hundredths read is =
    by (departs_from g (players_of g lines) number nothing lines) refl (sym (ap (λ header. audit_behind number lines header (departs_behind number lines header)) read) ∙ is)
  where
    by : (o : Option (ℕ × Cause)) → departs_from g (players_of g lines) number nothing lines ≡ o → Some (judged g lines o) ≡ Some (Rejected n c hundredths) → departs_from g (players_of g lines) number nothing lines ≡ Some (n, c)
    by None e h = cc
    by (Some at) e h =
        let first : at.0 ≡ n = cc in
        let second : at.1 ≡ c = cc in
        e ∙ (λ i. Some (first i, second i))
