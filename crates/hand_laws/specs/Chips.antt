-- Chips are kept.
use Rattle.std.specs.Prelude.{◌≡◌, ℕ, zero, suc, ◌+◌, ◌-◌, ◌≤◌, true, List}
use Rattle.hand_events.specs.declared.events.Header.{Header}
use Rattle.hand_events.specs.declared.events.Event.{Event}
use Rattle.betting_replay.specs.Accepted.{opening}
use Rattle.betting_replay.specs.Sums.{paid, dead}
use Rattle.hand_audit.specs.Collections.{collections, got_from}

-- what a seat collected
abbrev pub collected_at : List Event → ℕ → ℕ
collected_at h p = got_from (λ pot. true) p (collections h)

-- a sum over n seats, from one on, and over all seats of the table
abbrev pub sum_from : (ℕ → ℕ) → ℕ → ℕ → ℕ
sum_from f p zero = 0
sum_from f p (suc n) = f p + sum_from f (p + 1) n

abbrev pub over_seats : (ℕ → ℕ) → ℕ
over_seats f = sum_from f 1 10

-- what a seat has after a hand: its opening stack, the units of its seat line, less what it put in, and what it collected
abbrev pub closing : Header → List Event → ℕ → ℕ
closing g h p = opening h p - (paid g h p + dead g h p) + collected_at h p

-- no seat put in more than its opening stack, and all seats have together what they had, less the stated rake
pub record KeepsChips (g : Header) (h : List Event) (stated : ℕ) : Type 0 where
  pub covered : (p : ℕ) → p ≤ 10 → paid g h p + dead g h p ≤ opening h p
  pub whole : over_seats (closing g h) + stated ≡ over_seats (opening h)
