-- Of a hand that is accepted no line departs, and its verdict is what the definitions say. Each law on accepted hands begins with it.
use Rattle.std.proofs.Common.{◌≡◌, ℕ, List, ◌∷◌, refl, sym, ap, ◌∙◌}
use Rattle.std.specs.Prelude.{Option, Some, None, Ok}
use Rattle.hand_events.specs.declared.events.Header.{Header}
use Rattle.history_text.specs.Headers.{header_of}
use Rattle.hand_verdict.specs.declared.verdicts.AllIn.{AllIn}
use Rattle.hand_verdict.specs.declared.verdicts.HandAudit.TheVariants.{Accepted}
use Rattle.hand_verdict.specs.declared.cause.Cause.{Cause}
use Rattle.hand_verdict.specs.declared.settlement.Settlement.{Settlement}
use Rattle.hand_audit.specs.AllIns.{all_in_of}
use Rattle.hand_audit.specs.Departs.{departs, departs_behind, departs_from}
use Rattle.hand_audit.specs.Lines.{nothing, players_of}
use Rattle.hand_audit.specs.Verdict.{audit_of, audit_behind, judged, settlement_of, events_of}

-- what an accepted hand's verdict says
pub record IsAcceptedHand (g : Header) (lines : List (List ℕ)) (number : ℕ) (settlement : Settlement) (all_in : AllIn) (players : ℕ) : Type 0 where
  pub none : departs_from g players number nothing lines ≡ None
  pub made : settlement_of g players (events_of g lines) ≡ settlement
  pub found : all_in_of g players (events_of g lines) ≡ all_in
  pub all_play : players_of g lines ≡ players

same_some : {A : Type 0} (a b : A) → Some a ≡ Some b → a ≡ b
same_some a b e = cc

pub accepted_is : (number : ℕ) (line : List ℕ) (lines : List (List ℕ)) (g : Header) (settlement : Settlement) (all_in : AllIn) (names : List (ℕ × List ℕ)) (players : ℕ) → header_of line ≡ Ok g
    → audit_of number (line ∷ lines) ≡ Some (Accepted settlement all_in names players) → IsAcceptedHand g lines number settlement all_in players
unfolding departs
accepted_is number line lines g settlement all_in names players read is =
    by (departs_from g (players_of g lines) number nothing lines) refl (same_some _ _ (sym (ap (λ header. audit_behind number lines header (departs_behind number lines header)) read) ∙ is))
  where
    by : (o : Option (ℕ × Cause)) → departs_from g (players_of g lines) number nothing lines ≡ o → judged g lines o ≡ Accepted settlement all_in names players → IsAcceptedHand g lines number settlement all_in players
    by (Some at) e h = cc
    by None e h =
        let same : players_of g lines ≡ players = cc in
        let made : settlement_of g (players_of g lines) (events_of g lines) ≡ settlement = cc in
        let found : all_in_of g (players_of g lines) (events_of g lines) ≡ all_in = cc in
        record { none = ap (λ p. departs_from g p number nothing lines) (sym same) ∙ e; made = ap (λ p. settlement_of g p (events_of g lines)) (sym same) ∙ made; found = ap (λ p. all_in_of g p (events_of g lines)) (sym same) ∙ found; all_play = same }
