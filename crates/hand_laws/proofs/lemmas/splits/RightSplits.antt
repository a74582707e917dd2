-- No payment of an accepted hand is beyond its tolerance: `law_pots_are_split_by_the_rules`.
use Rattle.std.proofs.Common.{◌≡◌, ℕ, List, refl, sym, ap, ◌∙◌, true, ◌+◌, ◌<◌, ◌≤◌, zero, suc, [], ◌∷◌, subst, Bool, false, length, arith, inl, inr}
use Rattle.std.specs.Prelude.{Option, Some, None, if◌then◌else◌, Ok, slice_get, nat_lt}
use Rattle.std.specs.List.{list_any}
use Rattle.std.proofs.lemmas.Bool.{cases_eq}
use Rattle.hand_events.specs.declared.events.Header.{Header}
use Rattle.hand_events.specs.declared.events.Event.{Event}
use Rattle.history_text.specs.Headers.{header_of}
use Rattle.pot_layers.specs.declared.paid.Pot.{Pot}
use Rattle.pot_layers.specs.Pots.{pots}
use Rattle.betting_replay.specs.Seats.{or_else}
use Rattle.hand_verdict.specs.declared.cause.Cause.TheVariants.{Unfinished}
use Rattle.hand_audit.specs.Settle.{beyond, Showing, beyond_if, beyond_in, beyond_of, beyond_from, settled, settled_of, pay_of, shares_of_pot, due_of_seat, sides_of_seat, distance}
use Rattle.hand_verdict.specs.declared.settlement.Payment.{Payment}
use Rattle.hand_audit.specs.Departs.{split_cause, is_total, end_cause, departs_from}
use Rattle.hand_audit.specs.Showings.{showing_of}
use Rattle.hand_audit.specs.Lines.{nothing}
use Rattle.hand_audit.specs.Verdict.{events_of, audit_of}
use Rattle.hand_verdict.specs.declared.verdicts.AllIn.{AllIn}
use Rattle.hand_verdict.specs.declared.verdicts.HandAudit.TheVariants.{Accepted}
use Rattle.hand_audit.specs.declared.pot_names.Source.TheVariants.{Numbered}
use Rattle.hand_verdict.specs.declared.settlement.Settlement.{Settlement}
use Rattle.hand_audit.specs.PotNames.{fits}
use Rattle.hand_laws.specs.Splits.{IsSplitRightly}
use Rattle.hand_audit.proofs.CallerLemmas.{sound_all, has_total, start, accepted_is}

-- no payment of a hand in which no line departs is beyond its tolerance
split_none : (o : Option Payment) → split_cause o ≡ None → o ≡ None
split_none None h = refl
split_none (Some pay) h = cc

none_beyond : (g : Header) (players : ℕ) (h : List Event) → end_cause g players h ≡ None → beyond (showing_of g players h) ≡ None
unfolding end_cause
none_beyond g players h none =
    let some : list_any is_total h ≡ true = has_total g players h none in
    split_none (beyond (showing_of g players h)) (sym (ap (λ b. if b then split_cause (beyond (showing_of g players h)) else Some Unfinished) some) ∙ none)

pub kept_within : (g : Header) (players number : ℕ) (lines : List (List ℕ)) → departs_from g players number nothing lines ≡ None → beyond (showing_of g players (events_of g lines)) ≡ None
kept_within g players number lines none = none_beyond g players (events_of g lines) (sound_all g players number lines nothing (start g players) none).1

-- none of some pots has a payment beyond its tolerance
none_both : {A : Type 0} (a b : Option A) → or_else a b ≡ None → (a ≡ None) × (b ≡ None)
none_both None b h = (refl, h)
none_both (Some x) b h = cc

none_in : (s : Showing) (count k : ℕ) (all : List Pot) (i : ℕ) (pot : Pot) → beyond_in s count k all ≡ None → slice_get all i ≡ Some pot → beyond_of s (Numbered count (k + i)) pot ≡ None
none_in s count k [] i pot none is = cc
none_in s count k (first ∷ more) zero pot none is =
    let both = none_both (beyond_of s (Numbered count k) first) (beyond_in s count (k + 1) more) none in
    let same : first ≡ pot = cc in
    let here : k ≡ k + 0 = omega arith in
    subst (λ (n : ℕ). beyond_of s (Numbered count n) pot ≡ None) here (subst (λ (x : Pot). beyond_of s (Numbered count k) x ≡ None) same both.0)
none_in s count k (first ∷ more) (suc i) pot none is =
    let both = none_both (beyond_of s (Numbered count k) first) (beyond_in s count (k + 1) more) none in
    let here : (k + 1) + i ≡ k + suc i = omega arith in
    subst (λ (n : ℕ). beyond_of s (Numbered count n) pot ≡ None) here (none_in s count (k + 1) more i pot both.1 is)

near : (f : ℕ → Payment) (t : ℕ → ℕ) (p : ℕ) → nat_lt (t p) (distance (f p).got (f p).due) ≡ false → distance (f p).got (f p).due ≤ t p
near f t p low = grind arith

all_near : (f : ℕ → Payment) (t : ℕ → ℕ) (from n p : ℕ) → beyond_from f t from n ≡ None → from ≤ p → p < from + n → distance (f p).got (f p).due ≤ t p
all_near f t from zero p none l h = absurd (omega arith)
all_near f t from (suc n) p none l h = by (nat_lt (t from) (distance (f from).got (f from).due)) refl none (λ later far. all_near f t (from + 1) n p later far (omega arith))
  where
    by : (b : Bool) → nat_lt (t from) (distance (f from).got (f from).due) ≡ b → (if b then Some (f from) else beyond_from f t (from + 1) n) ≡ None
        → (beyond_from f t (from + 1) n ≡ None → from + 1 ≤ p → distance (f p).got (f p).due ≤ t p) → distance (f p).got (f p).due ≤ t p
    by true e left later = cc
    by false e left later = elim (cases_eq from p) [ inl same ↦ subst (λ (q : ℕ). distance (f q).got (f q).due ≤ t q) same (near f t from e) | inr other ↦ later left (omega arith) ]

pub fit_of : (s : Showing) → (settled s).fits ≡ true → fits (pots s.paid) s.collections ≡ true
unfolding settled
fit_of s h = by (fits (pots s.paid) s.collections) h
  where
    by : (b : Bool) → (settled_of b s (pots s.paid)).fits ≡ true → b ≡ true
    by true e = refl
    by false e = e

within_fit : (s : Showing) → fits (pots s.paid) s.collections ≡ true → beyond s ≡ None → beyond_in s (length (pots s.paid)) 0 (pots s.paid) ≡ None
unfolding beyond
within_fit s fit none = sym (ap (λ b. beyond_if b s (pots s.paid)) fit) ∙ none

split_of : (s : Showing) → (settled s).fits ≡ true → beyond s ≡ None → IsSplitRightly s
split_of s fit none number pot is p low high =
    let source = Numbered (length (pots s.paid)) number in
    let here : 0 + number ≡ number = omega arith in
    let pot_none : beyond_of s source pot ≡ None = subst (λ (n : ℕ). beyond_of s (Numbered (length (pots s.paid)) n) pot ≡ None) here (none_in s (length (pots s.paid)) 0 (pots s.paid) number pot (within_fit s (fit_of s fit) none) is) in
    record {
      due = λ known. ap (λ b. if b then due_of_seat p (shares_of_pot s source pot) else (pay_of s source pot p).got) known;
      near = all_near (pay_of s source pot) (λ q. sides_of_seat q (shares_of_pot s source pot)) 1 10 p pot_none low (omega arith);
    }

-- of a hand that is accepted
pub accepted_split : (number : ℕ) (line : List ℕ) (lines : List (List ℕ)) (g : Header) → header_of line ≡ Ok g → (settlement : Settlement) (all_in : AllIn) (names : List (ℕ × List ℕ)) (players : ℕ)
    → audit_of number (line ∷ lines) ≡ Some (Accepted settlement all_in names players) → settlement.fits ≡ true → IsSplitRightly (showing_of g players (events_of g lines))
accepted_split number line lines g read settlement all_in names players is fit =
    let a = accepted_is number line lines g settlement all_in names players read is in
    let s = showing_of g players (events_of g lines) in
    let fit_settled : (settled s).fits ≡ true = ap (λ (x : Settlement). x.fits) a.made ∙ fit in
    split_of s fit_settled (kept_within g players number lines a.none)
