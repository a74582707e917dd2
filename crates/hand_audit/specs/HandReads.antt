-- A hand that was read, whatever the number of its first line.
use Rattle.std.specs.Prelude.{◌≡◌, ℕ, ◌+◌, ◌<◌, Bool, false, List, [], ◌∷◌, length, Ok, Some}
use Rattle.history_text.specs.Headers.{header_of}
use Rattle.hand_verdict.specs.declared.cause.Cause.{Cause}
use Rattle.hand_verdict.specs.declared.verdicts.HandAudit.TheVariants.{Rejected}
use Rattle.hand_audit.specs.declared.ended.EndedHand.{EndedHand}
use Rattle.hand_audit.specs.declared.read.HandEnd.{HandEnd}
use Rattle.hand_audit.specs.declared.read.HandEnd.TheVariants.{Departs, Ends}
use Rattle.hand_audit.specs.declared.read.HandRead.{HandRead}
use Rattle.hand_audit.specs.Departs.{at_line, departs_from, is_split, split_cause}
use Rattle.hand_audit.specs.Keeping.{IsEnded, Keeps}
use Rattle.hand_audit.specs.Lines.{nothing, players_of}
use Rattle.hand_audit.specs.Verdict.{audit_of, read_all}

-- a line departs after some lines, and not for a payment
pub record DepartsIn (lines : List (List ℕ)) (count : ℕ) (cause : Cause) (hundredths : Bool) : Type 0 where
  pub audit : (number : ℕ) → audit_of number lines ≡ Some (Rejected (number + count) cause hundredths)
  pub other : is_split cause ≡ false

-- the chips of a hand with this header line are settled after some lines; this is kept
pub record EndsBehind (line : List ℕ) (rest : List (List ℕ)) (count : ℕ) (hand : EndedHand) : Type 0 where
  pub header : header_of line ≡ Ok hand.header
  pub players : hand.players ≡ players_of hand.header rest
  pub departs : (number : ℕ) → departs_from hand.header hand.players number nothing rest ≡ at_line (number + count) (split_cause hand.settled.beyond)
  pub keeps : Keeps hand.state.value hand.header hand.players (read_all hand.header nothing rest)
  pub ended : IsEnded hand.header hand.players (read_all hand.header nothing rest).events hand.settled
  pub names : hand.names ≡ (read_all hand.header nothing rest).names

abbrev pub EndsIn : List (List ℕ) → ℕ → EndedHand → Type 0
EndsIn [] count hand = ⊥
EndsIn (line ∷ rest) count hand = EndsBehind line rest count hand

abbrev pub IsEndOf : List (List ℕ) → ℕ → HandEnd → Type 0
IsEndOf lines count (Departs cause hundredths) = DepartsIn lines count cause hundredths
IsEndOf lines count (Ends hand) = EndsIn lines count hand

-- what was read of these lines
pub record IsReadOf (hand : HandRead) (lines : List (List ℕ)) : Type 0 where
  pub few : hand.lines < length lines
  pub end : IsEndOf lines hand.lines hand.end
