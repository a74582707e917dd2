-- The later streets of a hand that is played out: those after its all-in point.
use Rattle.std.specs.Prelude.{ℕ, Bool, true, false, List, [], ◌∷◌, map, Option, Some, None, Result, Ok, Err}
use Rattle.card_sets.specs.declared.games.Game.{Game}
use Rattle.card_sets.specs.declared.streets.Street.{Street}
use Rattle.history_text.specs.Headers.{header_of}
use Rattle.hand_events.specs.declared.events.Header.{Header}
use Rattle.hand_events.specs.declared.events.Event.{Event}
use Rattle.hand_events.specs.declared.events.TextFault.{TextFault}
use Rattle.pot_layers.specs.Pots.{pots}
use Rattle.betting_replay.specs.Later.{later_streets}
use Rattle.betting_replay.specs.Table.{ReplayState}
use Rattle.betting_replay.specs.TableAfter.{table_of}
use Rattle.showdown_tally.specs.declared.table.Table.{Table}
use Rattle.hand_audit.specs.AllIns.{all_in_at, known_there, eligible_in}
use Rattle.hand_audit.specs.Lines.{players_of}
use Rattle.hand_audit.specs.Showings.{paid_in}
use Rattle.hand_audit.specs.Verdict.{events_of}
use Rattle.hand_verdict.specs.declared.streets.StreetState.{StreetState}
use Rattle.hand_verdict.specs.declared.verdicts.AllIn.{AllIn}
use Rattle.hand_verdict.specs.declared.verdicts.AllIn.TheVariants.{None as NoAllIn, Unknown, Known}
use Rattle.hand_verdict.specs.declared.verdicts.HandAudit.{HandAudit}
use Rattle.hand_verdict.specs.declared.verdicts.HandAudit.TheVariants.{Rejected, Accepted}

-- the table of an all-in; none where it is unknown
abbrev pub table_in : AllIn → Option Table
table_in NoAllIn = None
table_in Unknown = None
table_in (Known street seats table) = Some table

-- what is known on a street, of the contenders at the point and with its dead cards, as if the point lay on it. The pots have these players
abbrev pub state_on : Game → ReplayState → List ℕ → Street → StreetState
state_on game t eligible street = record { street = street; table = table_in (all_in_at (known_there game t street) eligible) }

-- what is known on each of some streets; the pots are those of the whole hand
abbrev pub states_on : Game → ReplayState → List Street → List StreetState
states_on game t streets = map (state_on game t (eligible_in (pots (paid_in t)))) streets

-- what is known on the later streets of a hand
abbrev pub states_of : Header → ℕ → List Event → List StreetState
states_of header players h = states_on header.game (table_of header players h) (later_streets header players h)

-- the same of a hand by its lines; none where its header line can't be read
abbrev pub states_behind : List (List ℕ) → Result Header TextFault → List StreetState
states_behind lines (Ok header) = states_of header (players_of header lines) (events_of header lines)
states_behind lines (Err fault) = []

abbrev pub states_in : List (List ℕ) → List StreetState
states_in [] = []
states_in (line ∷ lines) = states_behind lines (header_of line)

-- a hand is accepted, and the cards at its all-in are known
abbrev pub is_known : AllIn → Bool
is_known NoAllIn = false
is_known Unknown = false
is_known (Known street seats table) = true

abbrev pub has_known_all_in : Option HandAudit → Bool
has_known_all_in None = false
has_known_all_in (Some (Rejected line cause hundredths)) = false
has_known_all_in (Some (Accepted settlement all_in names players)) = is_known all_in

-- the later streets of a hand on which this is the verdict: none of a rejected one
abbrev pub streets_of : HandAudit → List (List ℕ) → List StreetState
streets_of (Rejected line cause hundredths) lines = []
streets_of (Accepted settlement all_in names players) lines = states_in lines
