-- What the rules give of the pots of a hand, also of one that is rejected for its payments alone.
use Rattle.std.specs.Prelude.{ℕ, List, [], ◌∷◌, Result, Ok, Err, Option, Some, None}
use Rattle.history_text.specs.Headers.{header_of}
use Rattle.hand_events.specs.declared.events.Header.{Header}
use Rattle.hand_events.specs.declared.events.TextFault.{TextFault}
use Rattle.hand_verdict.specs.declared.cause.Cause.{Cause}
use Rattle.hand_verdict.specs.declared.cause.Cause.TheVariants.{Text, Bet, Chips, Split, Unfinished}
use Rattle.hand_verdict.specs.declared.parts.PartShare.{PartShare}
use Rattle.hand_verdict.specs.declared.parts.SplitHand.{SplitHand}
use Rattle.hand_verdict.specs.declared.verdicts.HandAudit.{HandAudit}
use Rattle.hand_verdict.specs.declared.verdicts.HandAudit.TheVariants.{Rejected, Accepted}
use Rattle.hand_audit.specs.Lines.{SoFar, nothing, players_of}
use Rattle.hand_audit.specs.Parts.{hand_parts}
use Rattle.hand_audit.specs.Showings.{showing_of}
use Rattle.hand_audit.specs.Verdict.{events_of, read_all, settlement_of}

-- what became of the chips of a hand, and who plays it, by what its lines say
abbrev pub split_by : Header → ℕ → SoFar → SplitHand
split_by header players so_far = record { settlement = settlement_of header players so_far.events; names = so_far.names; players = players }

-- the same by its lines; nothing where its header line can't be read
abbrev pub split_behind : List (List ℕ) → Result Header TextFault → Option SplitHand
split_behind lines (Ok header) = Some (split_by header (players_of header lines) (read_all header nothing lines))
split_behind lines (Err fault) = None

abbrev pub split_in : List (List ℕ) → Option SplitHand
split_in [] = None
split_in (line ∷ lines) = split_behind lines (header_of line)

-- that of a hand on which this is the verdict: there is one exactly where it is rejected for a payment
abbrev pub split_for : Cause → List (List ℕ) → Option SplitHand
split_for (Split seat due got) lines = split_in lines
split_for (Text fault) lines = None
split_for (Bet fault) lines = None
split_for (Chips stated counted) lines = None
split_for Unfinished lines = None

abbrev pub split_of : HandAudit → List (List ℕ) → Option SplitHand
split_of (Rejected line cause hundredths) lines = split_for cause lines
split_of (Accepted settlement all_in names players) lines = None

-- the shares of the parts of its pots, by its lines
abbrev pub parts_behind : List (List ℕ) → Result Header TextFault → List (List PartShare)
parts_behind lines (Ok header) = hand_parts (showing_of header (players_of header lines) (events_of header lines))
parts_behind lines (Err fault) = []

abbrev pub parts_in : List (List ℕ) → List (List PartShare)
parts_in [] = []
parts_in (line ∷ lines) = parts_behind lines (header_of line)

-- those of a hand on which this is the verdict: of an accepted one, and of one that is rejected for a payment; else there is no pot
abbrev pub parts_for : Cause → List (List ℕ) → List (List PartShare)
parts_for (Split seat due got) lines = parts_in lines
parts_for (Text fault) lines = []
parts_for (Bet fault) lines = []
parts_for (Chips stated counted) lines = []
parts_for Unfinished lines = []

abbrev pub parts_given : HandAudit → List (List ℕ) → List (List PartShare)
parts_given (Rejected line cause hundredths) lines = parts_for cause lines
parts_given (Accepted settlement all_in names players) lines = parts_in lines
