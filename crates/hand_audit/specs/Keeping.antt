-- What is kept of the lines so far.
use Rattle.std.specs.Prelude.{◌≡◌, ℕ, ◌+◌, ◌≤◌, ◌<◌, ◌^◌, true, false, List, [], ◌∷◌, length, drop, Result, Ok, Err, Option, Some, None, All, IfOk}
use Rattle.std.specs.List.{list_any}
use Rattle.line_text.specs.Lines.{lines}
use Rattle.hand_events.specs.declared.events.Header.{Header}
use Rattle.hand_events.specs.declared.events.Event.{Event}
use Rattle.hand_events.specs.declared.events.Event.TheVariants.{Seat}
use Rattle.hand_events.specs.declared.events.TextFault.{TextFault}
use Rattle.hand_events.specs.declared.events.Part.{Part}
use Rattle.hand_events.specs.declared.events.Part.TheVariants.{Preamble, Summary as SummaryPart}
use Rattle.history_text.specs.Lines.{line_event}
use Rattle.history_text.specs.Within.{IsSeated, stands_in}
use Rattle.betting_replay.specs.Accepted.{IsAccepted}
use Rattle.betting_replay.specs.CardLaws.{MarkerFits, MarkersFit}
use Rattle.betting_replay.specs.Later.{later_streets}
use Rattle.betting_replay.specs.Limits.{Fits}
use Rattle.betting_replay.specs.TableAfter.{StandsFor}
use Rattle.hand_verdict.specs.declared.cause.Cause.{Cause}
use Rattle.hand_verdict.specs.declared.cause.Cause.TheVariants.{Text}
use Rattle.hand_audit.specs.declared.hand.AuditState.{AuditState}
use Rattle.hand_audit.specs.declared.follow.Followed.{Followed}
use Rattle.hand_audit.specs.declared.follow.Followed.TheVariants.{Departs, Ends}
use Rattle.hand_audit.specs.Lines.{SoFar, part_of, part_after, named_by, with_event, nothing}
use Rattle.hand_audit.specs.Collections.{collections, taken}
use Rattle.hand_audit.specs.Showings.{rake, showing_of}
use Rattle.hand_audit.specs.Departs.{is_total, event_cause, end_cause, split_cause, is_split, at_line, departs_from}
use Rattle.hand_audit.specs.Verdict.{read_all}
use Rattle.hand_audit.specs.declared.settling.HandSettled.{HandSettled}
use Rattle.hand_audit.specs.SettlementAnswers.{IsOfHand}

-- the name of a seat line is within the line
abbrev pub HasName : Event → List ℕ → Type 0
HasName (Seat seat units first end) line = (first ≤ end) × (end ≤ length line)
HasName _ line = Unit {0}

-- what holds of what a line of this part of a hand with this header was found to say
pub record IsSaid (header : Header) (part : Part) (said : Result Event TextFault) : Type 0 where
  pub fits : IfOk said (λ e. Fits e)
  pub stands : IfOk said (λ e. stands_in part e ≡ true)
  pub cards : IfOk said (λ e. MarkerFits header.game e)

-- a line was read by these names in this part of a hand with this header: what it says, and what holds of it
pub record IsRead (names : List (ℕ × List ℕ)) (header : Header) (part : Part) (line : List ℕ) (said : Result Event TextFault) : Type 0 where
  pub value : said ≡ line_event names header part line
  pub name : IfOk said (λ e. HasName e line)
  pub is : IsSaid header part said

-- the names and the part after a line that was read
abbrev pub names_by : Result Event TextFault → List ℕ → List (ℕ × List ℕ) → List (ℕ × List ℕ)
names_by (Ok e) line names = named_by e line names
names_by (Err fault) line names = names

abbrev pub part_by : Result Event TextFault → Part → Part
part_by (Ok e) part = part_after e part
part_by (Err fault) part = part

-- the part after some lines that were read
abbrev pub parts_after : Part → List (Result Event TextFault) → Part
parts_after part [] = part
parts_after part (said ∷ reads) = parts_after (part_by said part) reads

-- the first of some lines were found to say this, each after those before it
abbrev pub AreReads : Header → List (ℕ × List ℕ) → Part → List (Result Event TextFault) → List (List ℕ) → Type 0
AreReads header names part [] lines = Unit {0}
AreReads header names part (said ∷ reads) [] = ⊥
AreReads header names part (said ∷ reads) (line ∷ lines) = IsRead names header part line said × AreReads header (names_by said line names) (part_by said part) reads lines

-- the names after them
abbrev pub names_after : List (ℕ × List ℕ) → List (Result Event TextFault) → List (List ℕ) → List (ℕ × List ℕ)
names_after names [] lines = names
names_after names (said ∷ reads) [] = names
names_after names (said ∷ reads) (line ∷ lines) = names_after (names_by said line names) reads lines

-- the first of the lines from a place on were found to say this, these are the names after them, and the others begin at another place
pub record IsFound (header : Header) (bytes : List ℕ) (start : ℕ) (reads : List (Result Event TextFault)) (names : List (ℕ × List ℕ)) (next : ℕ) : Type 0 where
  pub are : AreReads header [] Preamble reads (lines (drop start bytes))
  pub named : names ≡ names_after [] reads (lines (drop start bytes))
  pub left : lines (drop next bytes) ≡ drop (length reads) (lines (drop start bytes))
  pub within : next ≤ length bytes
  pub few : length reads ≤ next

-- what is kept stands for the lines so far of a hand with this header and these players
pub record Keeps (hand : AuditState) (header : Header) (players : ℕ) (so_far : SoFar) : Type 0 where
  pub stands : StandsFor hand.replay header players so_far.events
  pub part : hand.part ≡ part_of so_far.events
  pub collections : hand.collections.items ≡ collections so_far.events
  pub streets : hand.streets.items ≡ later_streets header players so_far.events
  pub rake : hand.rake ≡ rake so_far.events
  pub total : hand.total ≡ list_any is_total so_far.events
  pub seats : All IsSeated so_far.names
  pub accepted : IsAccepted header players so_far.events
  pub markers : MarkersFit header.game so_far.events

-- what holds of it whatever the hand: after a total line the summary's lines alone are left, and
-- what was collected is no more than the stated pot
pub record IsSound (hand : AuditState) : Type 0 where
  pub part : hand.total ≡ true → hand.part ≡ SummaryPart
  pub room : hand.total ≡ true → taken hand.collections.items < 10 ^ 15

-- after a line that says this, its cause is given, or what is kept stands for it too
abbrev pub Goes : AuditState → Header → ℕ → SoFar → List ℕ → Result Event TextFault → Option Cause → Type 0
Goes new header players so_far line (Err fault) cause = cause ≡ Some (Text fault)
Goes new header players so_far line (Ok e) (Some c) = event_cause header players so_far.events e ≡ Some c
Goes new header players so_far line (Ok e) None = (event_cause header players so_far.events e ≡ None) × Keeps new header players (with_event line e so_far)

-- a hand has ended with its chips settled: why its last line departs is its first payment beyond its tolerance, where there is one
pub record IsEnded (header : Header) (players : ℕ) (h : List Event) (settled : HandSettled) : Type 0 where
  pub cause : end_cause header players h ≡ split_cause settled.beyond
  pub is : IsOfHand (showing_of header players h) settled

-- what comes of the end of a hand: what became of its chips, or why its last line departs
abbrev pub EndsAs : Header → ℕ → List Event → Result HandSettled Cause → Type 0
EndsAs header players h (Ok settled) = IsEnded header players h settled
EndsAs header players h (Err cause) = (end_cause header players h ≡ Some cause) × (is_split cause ≡ false)

-- what comes of following the lines, whatever the number of the line before them: the first that departs, told by how many they are up to
-- it, and not for a payment; or what is kept at the end, the names, and what became of the chips
abbrev pub Follows : Header → ℕ → List (List ℕ) → Followed → Type 0
Follows header players lines (Departs count cause) =
    (count ≤ length lines) × ((number : ℕ) → departs_from header players number nothing lines ≡ Some (number + count, cause)) × (is_split cause ≡ false)
Follows header players lines (Ends count hand names settled) =
    (count ≤ length lines) × ((number : ℕ) → departs_from header players number nothing lines ≡ at_line (number + count) (split_cause settled.beyond))
    × Keeps hand.value header players (read_all header nothing lines) × IsEnded header players (read_all header nothing lines).events settled
    × (names ≡ (read_all header nothing lines).names)
