-- The return of a bet that nobody called. Source: the usual rules of poker.
use Rattle.std.specs.Prelude.{ℕ, ◌==◌, ◌&&◌, ◌||◌, Bool, false, List, Option, Some, None}
use Rattle.pot_layers.specs.declared.paid.Paid.{Paid}
use Rattle.pot_layers.specs.Uncalled.{uncalled}
use Rattle.betting_replay.specs.Accounts.{paid_by}
use Rattle.betting_replay.specs.Seats.{places_from}
use Rattle.betting_replay.specs.Table.{ReplayState}
use Rattle.betting_replay.specs.Turns.{live_at}

-- the chips that a seat has put in live on the street
unfoldable pub live_by : ReplayState → ℕ → Paid
live_by t p = record (paid_by t p) { live = live_at t p }

-- the chips that the ten seats have put in, over the hand with antes, and on the street
unfoldable pub hand_sums : ReplayState → List Paid
hand_sums t = places_from (paid_by t) 1 10

unfoldable pub street_sums : ReplayState → List Paid
street_sums t = places_from (live_by t) 1 10

-- the units of the seat are the uncalled amount
abbrev pub is_return : Option (ℕ × ℕ) → ℕ → ℕ → Bool
is_return None seat units = false
is_return (Some back) seat units = (back.0 == seat) && (back.1 == units)

-- the units may be returned to a seat: they are uncalled over the whole hand, or on the street
unfoldable pub return_fits : ReplayState → ℕ → ℕ → Bool
return_fits t seat units = is_return (uncalled (hand_sums t)) seat units || is_return (uncalled (street_sums t)) seat units

-- the uncalled units of the whole hand: 0 if no seat has paid more than every other
abbrev pub units_of : Option (ℕ × ℕ) → ℕ
units_of None = 0
units_of (Some back) = back.1

abbrev pub uncalled_due : ReplayState → ℕ
uncalled_due t = units_of (uncalled (hand_sums t))
