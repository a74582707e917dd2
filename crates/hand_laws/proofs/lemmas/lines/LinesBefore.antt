-- The lines before the first that departs stand: `law_lines_before_stand`.
use Rattle.std.proofs.Common.{◌≡◌, ℕ, zero, suc, ◌+◌, ◌-◌, ◌≤◌, List, [], ◌∷◌, refl, sym, ap, ◌∙◌, subst, Bool, arith}
use Rattle.std.specs.Prelude.{Option, Some, None, Result, Ok, Err}
use Rattle.hand_events.specs.declared.events.Header.{Header}
use Rattle.hand_events.specs.declared.events.Event.{Event}
use Rattle.hand_events.specs.declared.events.TextFault.{TextFault}
use Rattle.history_text.specs.Headers.{header_of}
use Rattle.betting_replay.specs.Seats.{or_else}
use Rattle.hand_verdict.specs.declared.verdicts.HandAudit.TheVariants.{Rejected}
use Rattle.hand_verdict.specs.declared.cause.Cause.{Cause}
use Rattle.hand_verdict.specs.declared.cause.Cause.TheVariants.{Text}
use Rattle.hand_laws.specs.Before.{Stand, StandsBy}
use Rattle.hand_audit.specs.Departs.{departs, departs_behind, departs_from, departs_by, at_line, end_cause, event_cause}
use Rattle.hand_audit.specs.Lines.{SoFar, nothing, read_at, with_event, players_of}
use Rattle.hand_audit.specs.Verdict.{audit_of, audit_behind, judged}

-- the number of a departing line, and that those before it stand
record IsBehind (g : Header) (players number : ℕ) (so_far : SoFar) (lines : List (List ℕ)) (n : ℕ) : Type 0 where
  above : number ≤ n
  stand : Stand g players so_far lines (n - number - 1)

first_in : ℕ → Option (ℕ × Cause) → ℕ
first_in other None = other
first_in other (Some at) = at.0

same_number : (a b : ℕ × Cause) → Some a ≡ Some b → a.0 ≡ b.0
unfolding first_in
same_number a b h = ap (first_in 0) h

at_number : (number n : ℕ) (o : Option Cause) (c : Cause) → at_line number o ≡ Some (n, c) → number ≡ n
at_number number n None c h = cc
at_number number n (Some d) c h = same_number (number, d) (n, c) h

one_more : (g : Header) (players number : ℕ) (so_far : SoFar) (line : List ℕ) (lines : List (List ℕ)) (e : Event) (n : ℕ) → read_at g so_far line ≡ Ok e → event_cause g players so_far.events e ≡ None
    → IsBehind g players (number + 1) (with_event line e so_far) lines n → IsBehind g players number so_far (line ∷ lines) n
one_more g players number so_far line lines e n is none b = record { above = (let a = b.above in omega (arith, a)); stand = by (n - number - 1) refl }
  where
    by : (k : ℕ) → n - number - 1 ≡ k → Stand g players so_far (line ∷ lines) k
    by zero eq = tt
    by (suc k) eq =
        let less : n - (number + 1) - 1 ≡ k = omega (arith, eq) in
        let rest : Stand g players (with_event line e so_far) lines k = subst (λ (m : ℕ). Stand g players (with_event line e so_far) lines m) less b.stand in
        subst (λ (r : Result Event TextFault). StandsBy g players so_far.events r (λ e. Stand g players (with_event line e so_far) lines k)) (sym is) (none, rest)

here : (g : Header) (players number : ℕ) (so_far : SoFar) (lines : List (List ℕ)) (n : ℕ) → number + 1 ≡ n → IsBehind g players number so_far lines n
here g players number so_far lines n is = let e : 0 ≡ n - number - 1 = omega (arith, is) in record { above = omega (arith, is); stand = subst (λ (m : ℕ). Stand g players so_far lines m) e tt }

behind : (g : Header) (players number : ℕ) (so_far : SoFar) (lines : List (List ℕ)) (n : ℕ) (c : Cause) → departs_from g players number so_far lines ≡ Some (n, c) → IsBehind g players number so_far lines n
behind g players number so_far [] n c h =
    let is : number ≡ n = at_number number n (end_cause g players so_far.events) c h in
    let e : 0 ≡ n - number - 1 = omega (arith, is) in
    record { above = omega (arith, is); stand = subst (λ (m : ℕ). Stand g players so_far [] m) e tt }
behind g players number so_far (line ∷ lines) n c h = by (read_at g so_far line) refl (λ next r. behind g players (number + 1) next lines n c r) h
  where
    by_cause : (e : Event) (o : Option Cause) → read_at g so_far line ≡ Ok e → event_cause g players so_far.events e ≡ o
        → ((next : SoFar) → departs_from g players (number + 1) next lines ≡ Some (n, c) → IsBehind g players (number + 1) next lines n)
        → or_else (at_line (number + 1) o) (departs_from g players (number + 1) (with_event line e so_far) lines) ≡ Some (n, c) → IsBehind g players number so_far (line ∷ lines) n
    by_cause e None is none go r = one_more g players number so_far line lines e n is none (go (with_event line e so_far) r)
    by_cause e (Some d) is some go r = here g players number so_far (line ∷ lines) n (at_number (number + 1) n (Some d) c r)

    by : (r : Result Event TextFault) → read_at g so_far line ≡ r → ((next : SoFar) → departs_from g players (number + 1) next lines ≡ Some (n, c) → IsBehind g players (number + 1) next lines n)
        → departs_by g players (number + 1) so_far.events r (λ e. departs_from g players (number + 1) (with_event line e so_far) lines) ≡ Some (n, c) → IsBehind g players number so_far (line ∷ lines) n
    by (Err f) is go r = let same : number + 1 ≡ n = same_number (number + 1, Text f) (n, c) r in here g players number so_far (line ∷ lines) n same
    by (Ok e) is go r = by_cause e (event_cause g players so_far.events e) is refl go r

pub rejected_behind : (number : ℕ) (line : List ℕ) (lines : List (List ℕ)) (g : Header) → header_of line ≡ Ok g → (n : ℕ) (c : Cause) (hundredths : Bool)
    → audit_of number (line ∷ lines) ≡ Some (Rejected n c hundredths) → Stand g (players_of g lines) nothing lines (n - number - 1)
unfolding departs
rejected_behind number line lines g read n c hundredths is =
    by (departs_from g (players_of g lines) number nothing lines) refl (sym (ap (λ header. audit_behind number lines header (departs_behind number lines header)) read) ∙ is)
  where
    by : (o : Option (ℕ × Cause)) → departs_from g (players_of g lines) number nothing lines ≡ o → Some (judged g lines o) ≡ Some (Rejected n c hundredths) → Stand g (players_of g lines) nothing lines (n - number - 1)
    by None e h = cc
    by (Some at) e h =
        let same : at.0 ≡ n = cc in
        subst (λ (m : ℕ). Stand g (players_of g lines) nothing lines (m - number - 1)) same (behind g (players_of g lines) number nothing lines at.0 at.1 e).stand
