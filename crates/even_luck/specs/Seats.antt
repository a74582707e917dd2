-- The seats of a hand, with their names, and the hands of a table that they have.
use Rattle.std.specs.Prelude.{ℕ, ◌==◌, List, length, position, take, Option}
use Rattle.showdown_tally.specs.Showdown.{Showdown}

-- the names of a hand's seats, each with its seat
abbrev pub Seated : Type 0
Seated = List (ℕ × List ℕ)

-- the seats of the contenders of an all-in: those of the table's hands, hand by hand
abbrev pub contenders : List ℕ → Showdown → List ℕ
contenders seats deal = take (length deal.state.hands) seats

-- which hand of the table a seat has, where it is a contender; the seats are given hand by hand
abbrev pub hand_at : List ℕ → Showdown → ℕ → Option ℕ
hand_at seats deal seat = position (λ other. other == seat) (take (length deal.state.hands) seats)
