-- What each seat of a hand got, is due and had, by its settlement and its chips.
use Rattle.std.specs.Prelude.{◌≡◌, ℕ, ◌+◌, ◌==◌, List, find, slice_index_or, sum_by}
use Rattle.std.specs.Option.{option_map_or}
use Rattle.card_sets.specs.PlayerSets.{seats_in}
use Rattle.hand_verdict.specs.declared.seat_chips.SeatChips.{SeatChips}
use Rattle.hand_verdict.specs.declared.settlement.Payment.{Payment}
use Rattle.hand_verdict.specs.declared.settlement.Settlement.{Settlement}

-- what a seat got, by payments by rising seat, of which it has at most one
abbrev pub got_by : List Payment → ℕ → ℕ
got_by payments seat = option_map_or (λ pay. pay.got) (find (λ pay. pay.seat == seat) payments) 0

-- all that a seat got of a hand: out of each pot, and by the payments of the hand, which there are where the names of the
-- collections don't fit the pots
abbrev pub got_of : Settlement → ℕ → ℕ
got_of s seat = sum_by (λ pot. got_by pot.paid seat) s.pots + got_by s.paid seat

-- the chips of a seat, of those of all by number
abbrev pub chips_at : List SeatChips → ℕ → SeatChips
chips_at chips seat = slice_index_or chips seat (record { had = 0; put = 0 })

-- what a seat is due, by payments by rising seat, of which it has at most one
abbrev pub due_by : List Payment → ℕ → ℕ
due_by payments seat = option_map_or (λ pay. pay.due) (find (λ pay. pay.seat == seat) payments) 0

-- all that a seat is due of a hand: of each pot, and by the payments of the hand, which there are where the names of the
-- collections don't fit the pots
abbrev pub due_of : Settlement → ℕ → ℕ
due_of s seat = sum_by (λ pot. due_by pot.paid seat) s.pots + due_by s.paid seat

-- the players of a hand are due what they got together: nobody else is due anything, or got anything
abbrev pub PlayersAreDue : Settlement → ℕ → Type 0
PlayersAreDue settlement players = sum_by (due_of settlement) (seats_in players) ≡ sum_by (got_of settlement) (seats_in players)
