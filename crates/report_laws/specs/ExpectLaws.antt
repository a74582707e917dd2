-- The expectations of the hands of an all-in over all pots, and what they would have received with even luck, before
-- rounding.
use Rattle.std.specs.Prelude.{◌≡◌, ℕ, ◌*◌, ◌<◌, List, length, All}
use Rattle.std.specs.List.{sum_by}
use Rattle.card_sets.specs.declared.games.Side.TheVariants.{Low}
use Rattle.hand_verdict.specs.SeatSums.{got_by}
use Rattle.hand_verdict.specs.declared.settlement.PotLine.{PotLine}
use Rattle.showdown_tally.specs.Showdown.{Showdown, eligible_in, winners}
use Rattle.showdown_tally.specs.Tallies.{runouts_after}
use Rattle.even_luck.specs.Figures.{every_pot, full_figures, given_to, gross_of, paid_from}
use Rattle.even_luck.specs.Seats.{contenders}
use Rattle.even_luck.specs.EvenLuck.{shared_pots}
use Rattle.report_sheet.specs.SpotLines.{every_hand}

-- what all runouts together give all hands of a deal, over all its pots, in 1/5040 of a unit of money
abbrev pub given_to_all : List PotLine → Showdown → ℕ
given_to_all pots deal = sum_by (λ hand. given_to pots (full_figures deal) hand (length deal.pots))
    (every_hand (length deal.state.hands))

-- the units in all pots of a deal
abbrev pub held_by_all : List PotLine → Showdown → ℕ
held_by_all pots deal = sum_by (λ k. gross_of pots k) (every_pot (length deal.pots))

-- each runout gives out all units in the pots
abbrev pub GivesAll : List PotLine → Showdown → Type 0
GivesAll pots deal =
    given_to_all pots deal ≡ held_by_all pots deal * (5040 * length (runouts_after deal.state))

-- each pot has a hand that may win it
abbrev pub HasPlayers : Showdown → Type 0
HasPlayers deal = (k : ℕ) → k < length deal.pots → 0 < length (eligible_in deal k)

-- the low of each pot has a winner in every runout
abbrev pub HasLows : Showdown → Type 0
HasLows deal = (k : ℕ) → k < length deal.pots
    → All (λ runout. 0 < length (winners deal k Low runout)) (runouts_after deal.state)

-- the units that a seat received from the pots of a deal
abbrev pub got_of_all : List PotLine → Showdown → ℕ → ℕ
got_of_all pots deal seat = sum_by (λ k. got_by (paid_from pots k) seat) (every_pot (length deal.pots))

-- over all runouts, what all hands would have received with even luck equals what the contenders received, times the
-- number of runouts
abbrev pub EvenAddsUp : List PotLine → List ℕ → Showdown → Type 0
EvenAddsUp pots seats deal =
    given_to_all (shared_pots (contenders seats deal) pots) deal
    ≡ sum_by (λ seat. got_of_all pots deal seat) (contenders seats deal)
    * (5040 * length (runouts_after deal.state))
