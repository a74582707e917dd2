-- When even luck is known, and how expectations are rounded.
use Rattle.std.specs.Prelude.{◌≡◌, ℕ, ◌+◌, ◌*◌, ◌<◌, ◌≤◌, ◌&&◌, Bool, true, false, List, length, is_some}
use Rattle.std.specs.List.{sum_by}
use Rattle.even_luck.specs.EvenLuck.{even_got, even_of}
use Rattle.even_luck.specs.Figures.{expected_by, full_figures, given_to, is_counted}
use Rattle.even_luck.specs.Seats.{contenders}
use Rattle.report_laws.specs.ExpectLaws.{got_of_all}
use Rattle.report_sheet.specs.SpotLines.{every_hand}
use Rattle.hand_verdict.specs.declared.settlement.Settlement.{Settlement}
use Rattle.hand_verdict.specs.declared.verdicts.AllIn.{AllIn}
use Rattle.hand_verdict.specs.declared.verdicts.AllIn.TheVariants.{None, Unknown, Known}
use Rattle.showdown_tally.specs.Deals.{deal_of}
use Rattle.showdown_tally.specs.Showdown.{Showdown}
use Rattle.showdown_tally.specs.Tallies.{runouts_after}

-- whether even luck is known for a hand: it has no all-in, or its all-in is counted and the collections fit the pots
abbrev pub knows_even : Settlement → AllIn → Bool
knows_even s None = true
knows_even s Unknown = false
knows_even s (Known street seats table) = s.fits && is_counted (deal_of table)

-- even luck is then known for every seat, and otherwise for none
abbrev pub EvenIsKnown : Type 0
EvenIsKnown = (s : Settlement) (all_in : AllIn) (seat : ℕ) → is_some (even_of s all_in seat) ≡ knows_even s all_in

-- the units are nearest to a number of pieces, given how many pieces make a unit; of two nearest ones they are the
-- greater
pub record IsNearest (given pieces units : ℕ) : Type 0 where
  pub not_above : 2 * pieces * units ≤ 2 * given + pieces
  pub not_below : 2 * given + pieces < 2 * pieces * (units + 1)

-- the expectation of a hand over all pots is rounded once, after its shares of all runouts in each pot are summed
abbrev pub ExpectIsNearest : Type 0
ExpectIsNearest = (s : Settlement) (deal : Showdown) (hand : ℕ) → 0 < length (runouts_after deal.state)
    → IsNearest (given_to s.pots (full_figures deal) hand (length deal.pots)) (5040 * length (runouts_after deal.state)) (expected_by s deal hand)

-- what the hands of an all-in would have received with even luck, each rounded, and what their players received from
-- the pots
abbrev pub even_of_all : Settlement → List ℕ → Showdown → ℕ
even_of_all s seats deal = sum_by (λ hand. even_got s seats deal hand) (every_hand (length deal.state.hands))

abbrev pub got_of_contenders : Settlement → List ℕ → Showdown → ℕ
got_of_contenders s seats deal = sum_by (λ seat. got_of_all s.pots deal seat) (contenders seats deal)

-- the two differ by at most half a unit for each hand
pub record EvenIsNear (s : Settlement) (seats : List ℕ) (deal : Showdown) : Type 0 where
  pub not_above : 2 * even_of_all s seats deal ≤ 2 * got_of_contenders s seats deal + length deal.state.hands
  pub not_below : 2 * got_of_contenders s seats deal ≤ 2 * even_of_all s seats deal + length deal.state.hands
