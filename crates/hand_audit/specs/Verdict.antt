-- The verdict on a hand.
use Rattle.std.specs.Prelude.{ℕ, Bool, false, List, [], ◌∷◌, Result, Ok, Err, Option, Some, None}
use Rattle.hand_events.specs.declared.events.Header.{Header}
use Rattle.hand_events.specs.declared.events.Event.{Event}
use Rattle.hand_events.specs.declared.events.TextFault.{TextFault}
use Rattle.history_text.specs.Headers.{header_of}
use Rattle.betting_replay.specs.Sums.{runs_twice}
use Rattle.hand_audit.specs.AllIns.{all_in_of}
use Rattle.hand_verdict.specs.declared.verdicts.HandAudit.{HandAudit}
use Rattle.hand_verdict.specs.declared.verdicts.HandAudit.TheVariants.{Rejected, Accepted}
use Rattle.hand_verdict.specs.declared.cause.Cause.{Cause}
use Rattle.hand_verdict.specs.declared.settlement.Settlement.{Settlement}
use Rattle.hand_audit.specs.Lines.{SoFar, nothing, with_line, players_of}
use Rattle.hand_audit.specs.Settle.{Settled, settled}
use Rattle.hand_audit.specs.Showings.{showing_of, rake}
use Rattle.hand_audit.specs.Departs.{departs}

-- what all lines say
abbrev pub read_all : Header → SoFar → List (List ℕ) → SoFar
read_all header so_far [] = so_far
read_all header so_far (line ∷ lines) = read_all header (with_line header so_far line) lines

-- the events of the lines after the header line, the latest first
abbrev pub events_of : Header → List (List ℕ) → List Event
events_of header lines = (read_all header nothing lines).events

abbrev pub settlement_by : Header → ℕ → Bool → Settled → Settlement
settlement_by header stated twice s = record { game = header.game; hundredths = header.hundredths; rake = stated; fits = s.fits; twice = twice; pots = s.pots; paid = s.paid }

abbrev pub settlement_of : Header → ℕ → List Event → Settlement
settlement_of header players h = settlement_by header (rake h) (runs_twice h) (settled (showing_of header players h))

abbrev pub accepted_by : Header → ℕ → SoFar → HandAudit
accepted_by header players so_far = Accepted (settlement_of header players so_far.events) (all_in_of header players so_far.events) so_far.names players

-- the verdict: the first line that departs, or else what became of the chips
abbrev pub judged : Header → List (List ℕ) → Option (ℕ × Cause) → HandAudit
judged header lines (Some at) = Rejected at.0 at.1 header.hundredths
judged header lines None = accepted_by header (players_of header lines) (read_all header nothing lines)

-- of a hand by its header; where that can't be read the hand counts in no hundredths
abbrev pub audit_behind : ℕ → List (List ℕ) → Result Header TextFault → Option (ℕ × Cause) → Option HandAudit
audit_behind number lines (Ok header) first = Some (judged header lines first)
audit_behind number lines (Err fault) None = None
audit_behind number lines (Err fault) (Some at) = Some (Rejected at.0 at.1 false)

abbrev pub audit_of : ℕ → List (List ℕ) → Option HandAudit
audit_of number [] = None
audit_of number (line ∷ lines) = audit_behind number lines (header_of line) (departs number (line ∷ lines))
