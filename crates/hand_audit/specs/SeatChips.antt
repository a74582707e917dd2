-- What each seat of a hand had, and what it put in.
use Rattle.std.specs.Prelude.{ℕ, ◌+◌, ◌<◌, ◌^◌, List, [], ◌∷◌, replicate, Result, Ok, Err}
use Rattle.history_text.specs.Headers.{header_of}
use Rattle.hand_events.specs.declared.events.Header.{Header}
use Rattle.hand_events.specs.declared.events.Event.{Event}
use Rattle.hand_events.specs.declared.events.TextFault.{TextFault}
use Rattle.betting_replay.specs.Accepted.{opening}
use Rattle.betting_replay.specs.Accounts.{paid_by, stack_at}
use Rattle.betting_replay.specs.Seats.{by_seat}
use Rattle.betting_replay.specs.Sums.{paid, dead}
use Rattle.betting_replay.specs.Table.{ReplayState}
use Rattle.hand_audit.specs.Verdict.{events_of}
use Rattle.hand_verdict.specs.declared.seat_chips.SeatChips.{SeatChips}
use Rattle.hand_verdict.specs.declared.verdicts.HandAudit.{HandAudit}
use Rattle.hand_verdict.specs.declared.verdicts.HandAudit.TheVariants.{Rejected, Accepted}

-- a seat had the chips that its seat line gives, and put in its antes, posts, dead chips, calls and bets, less what came back to it
abbrev pub seat_chips : Header → List Event → ℕ → SeatChips
seat_chips header h p = record { had = opening h p; put = paid header h p + dead header h p }

-- so each seat, by its number; number 0 is no seat
abbrev pub chips_after : Header → List Event → List SeatChips
chips_after header h = by_seat (seat_chips header h)

-- nobody had or put in anything
abbrev pub nobodys_chips : List SeatChips
nobodys_chips = replicate 11 (record { had = 0; put = 0 })

-- the chips of the seats of a hand, by its lines; nobody's where its header line can't be read
abbrev pub chips_behind : List (List ℕ) → Result Header TextFault → List SeatChips
chips_behind lines (Ok header) = chips_after header (events_of header lines)
chips_behind lines (Err fault) = nobodys_chips

abbrev pub chips_in : List (List ℕ) → List SeatChips
chips_in [] = nobodys_chips
chips_in (line ∷ lines) = chips_behind lines (header_of line)

-- those of a hand on which this is the verdict: nobody's where it is rejected
abbrev pub chips_of : HandAudit → List (List ℕ) → List SeatChips
chips_of (Rejected line cause hundredths) lines = nobodys_chips
chips_of (Accepted settlement all_in names players) lines = chips_in lines

-- what a table has at a seat: its stack together with all that it has put in, and that
abbrev pub put_on : ReplayState → ℕ → ℕ
put_on t p = (paid_by t p).live + (paid_by t p).dead

abbrev pub chips_on : ReplayState → ℕ → SeatChips
chips_on t p = record { had = stack_at t p + put_on t p; put = put_on t p }

abbrev pub all_chips_on : ReplayState → List SeatChips
all_chips_on t = by_seat (chips_on t)

-- no seat of the table has more than a seat line may give
pub record AreWithin (t : ReplayState) : Type 0 where
  pub seats : (p : ℕ) → p < 11 → stack_at t p + put_on t p < 10 ^ 15
