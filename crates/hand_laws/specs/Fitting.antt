-- Laws on what the pots of a hand come to: of each hand that is accepted and whose pot names fit, and of each that is rejected for its
-- payments alone.
use Rattle.std.specs.Prelude.{◌≡◌, ℕ, ◌∷◌, List, Ok, Some, true}
use Rattle.history_text.specs.Headers.{header_of}
use Rattle.hand_events.specs.declared.events.Header.{Header}
use Rattle.hand_audit.specs.SplitHands.{split_of}
use Rattle.hand_audit.specs.Verdict.{audit_of}
use Rattle.hand_verdict.specs.declared.parts.SplitHand.{SplitHand}
use Rattle.hand_verdict.specs.declared.settlement.Settlement.{Settlement}
use Rattle.hand_verdict.specs.declared.verdicts.AllIn.{AllIn}
use Rattle.hand_verdict.specs.declared.verdicts.HandAudit.{HandAudit}
use Rattle.hand_verdict.specs.declared.verdicts.HandAudit.TheVariants.{Accepted}

-- it holds of what became of the chips of each hand that is accepted and whose pot names fit, and of its players
abbrev pub OfFitting : (Settlement → ℕ → Type 0) → Type 0
OfFitting P =
    (number : ℕ) (line : List ℕ) (lines : List (List ℕ)) (header : Header) → header_of line ≡ Ok header
    → (settlement : Settlement) (all_in : AllIn) (names : List (ℕ × List ℕ)) (players : ℕ) → audit_of number (line ∷ lines) ≡ Some (Accepted settlement all_in names players)
    → settlement.fits ≡ true → P settlement players

-- it holds of each hand that is rejected for its payments alone
abbrev pub OfSplit : (SplitHand → Type 0) → Type 0
OfSplit P =
    (number : ℕ) (lines : List (List ℕ)) (audit : HandAudit) (split : SplitHand) → audit_of number lines ≡ Some audit → split_of audit lines ≡ Some split → P split
