-- What is counted of a deal, and what a hand of it could expect of the pots.
use Rattle.std.specs.Prelude.{ℕ, ◌*◌, ◌&&◌, not, nat_lt, Bool, List, [], length, sum, slice_get}
use Rattle.std.specs.List.{sum_by}
use Rattle.std.specs.Option.{option_map_or}
use Rattle.card_sets.specs.declared.games.Side.{Side}
use Rattle.hand_verdict.specs.declared.settlement.Payment.{Payment}
use Rattle.hand_verdict.specs.declared.settlement.PotLine.{PotLine}
use Rattle.hand_verdict.specs.declared.settlement.Settlement.{Settlement}
use Rattle.runout_ranges.specs.Slots.{unseen, slots, counts_of}
use Rattle.runout_ranges.specs.declared.limits.TheConstants.{RUNOUT_MAX}
use Rattle.share_fractions.specs.Round.{round}
use Rattle.showdown_tally.specs.Cells.{Sums, cell_at, units_at}
use Rattle.showdown_tally.specs.Showdown.{Showdown}
use Rattle.showdown_tally.specs.Tallies.{cell_over, units_over, runouts_after}
use Rattle.showdown_tally.specs.declared.cells.Cell.{Cell}
use Rattle.report_sheet.specs.SpotLines.{every_hand}

-- what is counted of a deal: how many runouts there are, how they end for a hand on a side of a pot, and the units of 1/5040
-- of a pot that they give a hand
pub record Figures : Type 0 where
  pub all : ℕ
  pub cell : ℕ → ℕ → Side → Cell
  pub units : ℕ → ℕ → ℕ

-- the counts of a deal over the full listing of its runouts
abbrev pub full_figures : Showdown → Figures
full_figures deal = record {
  all = length (runouts_after deal.state);
  cell = cell_over deal (runouts_after deal.state);
  units = units_over deal (runouts_after deal.state);
}

-- the counts that a tally holds
abbrev pub tally_figures : Sums → Figures
tally_figures sums = record { all = sums.runouts; cell = cell_at sums; units = units_at sums }

-- whether the equity of a deal is counted: as many cards may come as are lacking, and there aren't too many runouts
abbrev pub is_counted : Showdown → Bool
is_counted deal =
    not (nat_lt (length (unseen deal.state)) (sum (counts_of (slots deal.state))))
    && not (nat_lt RUNOUT_MAX (length (runouts_after deal.state)))

-- the pots numbered below n, rising
abbrev pub every_pot : ℕ → List ℕ
every_pot = every_hand

-- what a pot holds, by its number; a pot that isn't there holds nothing
abbrev pub gross_of : List PotLine → ℕ → ℕ
gross_of pots k = option_map_or (λ pot. pot.gross) (slice_get pots k) 0

-- the payments out of a pot, by its number; a pot that isn't there has none
abbrev pub paid_from : List PotLine → ℕ → List Payment
paid_from pots k = option_map_or (λ pot. pot.paid) (slice_get pots k) []

-- what all runouts together give a hand of the pots below a number, in 1/5040 of a unit of money
abbrev pub given_to : List PotLine → Figures → ℕ → ℕ → ℕ
given_to pots figures hand n = sum_by (λ k. gross_of pots k * figures.units k hand) (every_pot n)

-- what a hand may expect of all pots in units of money, rounded once after their sum: given is what all runouts give it, in
-- 1/5040 of a unit
abbrev pub expected_units : ℕ → ℕ → ℕ
expected_units all given = round given (5040 * all) 0

-- what a hand of the table could expect of all pots, as it is printed
abbrev pub expected_by : Settlement → Showdown → ℕ → ℕ
expected_by s deal hand = expected_units (full_figures deal).all
    (given_to s.pots (full_figures deal) hand (length deal.pots))
