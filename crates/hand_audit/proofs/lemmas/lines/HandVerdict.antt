-- The verdict on a hand, by what becomes of its header line and of those after it.
use Rattle.std.proofs.Common.{◌≡◌, ℕ, List, ◌∷◌, sym, ap, ◌∙◌, false}
use Rattle.std.specs.Prelude.{Option, Some, None, Ok, Err}
use Rattle.hand_events.specs.declared.events.Header.{Header}
use Rattle.hand_events.specs.declared.events.TextFault.{TextFault}
use Rattle.history_text.specs.Headers.{header_of}
use Rattle.hand_verdict.specs.declared.verdicts.HandAudit.{HandAudit}
use Rattle.hand_verdict.specs.declared.verdicts.HandAudit.TheVariants.{Rejected}
use Rattle.hand_verdict.specs.declared.cause.Cause.{Cause}
use Rattle.hand_verdict.specs.declared.cause.Cause.TheVariants.{Text, Split}
use Rattle.hand_verdict.specs.declared.settlement.Payment.{Payment}
use Rattle.hand_audit.specs.Lines.{nothing, players_of}
use Rattle.hand_audit.specs.Departs.{departs, departs_behind, departs_from, at_line, split_cause}
use Rattle.hand_audit.specs.Verdict.{audit_of, audit_behind, judged, accepted_by, read_all}

-- the header line departs
pub audit_fault : (n : ℕ) (all : List (List ℕ)) (line : List ℕ) (rest : List (List ℕ)) (f : TextFault) → all ≡ line ∷ rest → header_of line ≡ Err f → audit_of n all ≡ Some (Rejected n (Text f) false)
unfolding departs
audit_fault n all line rest f is fault = ap (audit_of n) is ∙ ap (λ header. audit_behind n rest header (departs_behind n rest header)) fault

judged_is : (n : ℕ) (all : List (List ℕ)) (line : List ℕ) (rest : List (List ℕ)) (g : Header) (players : ℕ) (first : Option (ℕ × Cause)) → all ≡ line ∷ rest → header_of line ≡ Ok g → players ≡ players_of g rest
    → departs_from g players n nothing rest ≡ first → audit_of n all ≡ Some (judged g rest first)
unfolding departs
judged_is n all line rest g players first is read play departs_at =
    ap (audit_of n) is ∙ ap (λ header. audit_behind n rest header (departs_behind n rest header)) read
    ∙ ap (λ p. Some (judged g rest (departs_from g p n nothing rest))) (sym play) ∙ ap (λ o. Some (judged g rest o)) departs_at

-- a later line departs
pub audit_departs : (n : ℕ) (all : List (List ℕ)) (line : List ℕ) (rest : List (List ℕ)) (g : Header) (players number : ℕ) (c : Cause) → all ≡ line ∷ rest → header_of line ≡ Ok g → players ≡ players_of g rest
    → departs_from g players n nothing rest ≡ Some (number, c) → audit_of n all ≡ Some (Rejected number c g.hundredths)
audit_departs n all line rest g players number c is read play departs_at = judged_is n all line rest g players (Some (number, c)) is read play departs_at

-- none does
pub audit_ends : (n : ℕ) (all : List (List ℕ)) (line : List ℕ) (rest : List (List ℕ)) (g : Header) (players : ℕ) (audit : HandAudit) → all ≡ line ∷ rest → header_of line ≡ Ok g → players ≡ players_of g rest
    → departs_from g players n nothing rest ≡ None → audit ≡ accepted_by g players (read_all g nothing rest) → audit_of n all ≡ Some audit
audit_ends n all line rest g players audit is read play none same =
    judged_is n all line rest g players None is read play none ∙ ap (λ p. Some (accepted_by g p (read_all g nothing rest))) (sym play) ∙ ap (λ x. Some x) (sym same)

-- the last does, for a payment
pub audit_splits : (n : ℕ) (all : List (List ℕ)) (line : List ℕ) (rest : List (List ℕ)) (g : Header) (players number : ℕ) (first : Option Payment) (pay : Payment) (c : Cause) → all ≡ line ∷ rest → header_of line ≡ Ok g → players ≡ players_of g rest
    → departs_from g players n nothing rest ≡ at_line number (split_cause first) → first ≡ Some pay → c ≡ Split pay.seat pay.due pay.got → audit_of n all ≡ Some (Rejected number c g.hundredths)
audit_splits n all line rest g players number first pay c is read play at beyond cause =
    audit_departs n all line rest g players number c is read play (at ∙ ap (λ o. at_line number (split_cause o)) beyond ∙ ap (λ x. Some (number, x)) (sym cause))
