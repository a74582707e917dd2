-- What an equity says of a deal.
use Rattle.std.specs.Prelude.{◌<◌, ◌≤◌, Bool, true, false, length}
use Rattle.runout_ranges.specs.Jobs.{IsDeckShort, IsAboveLimit}
use Rattle.runout_ranges.specs.declared.limits.JobFault.{JobFault}
use Rattle.runout_ranges.specs.declared.limits.JobFault.TheVariants.{DeckShort, AboveLimit}
use Rattle.runout_ranges.specs.declared.limits.TheConstants.{RUNOUT_MAX}
use Rattle.hand_verdict.specs.declared.verdicts.AllIn.{AllIn}
use Rattle.hand_verdict.specs.declared.verdicts.AllIn.TheVariants.{None, Unknown, Known}
use Rattle.hand_verdict.specs.declared.verdicts.HandAudit.{HandAudit}
use Rattle.hand_verdict.specs.declared.verdicts.HandAudit.TheVariants.{Rejected, Accepted}
use Rattle.even_luck.specs.declared.equity.Equity.{Equity}
use Rattle.even_luck.specs.declared.equity.Equity.TheVariants.{NotAsked, Refused, Counted}
use Rattle.showdown_tally.specs.Cells.{Sums}
use Rattle.showdown_tally.specs.Deals.{deal_of}
use Rattle.showdown_tally.specs.Showdown.{Showdown}
use Rattle.showdown_tally.specs.Tallies.{Counts, runouts_after}

-- a tally of all runouts of a deal, which are within the limit
pub record IsFull (deal : Showdown) (sums : Sums) : Type 0 where
  pub few : length (runouts_after deal.state) ≤ RUNOUT_MAX
  pub counts : Counts deal (runouts_after deal.state) sums

-- a fault says so of a deal exactly where it is the first that is met
abbrev pub IsRefused : Showdown → JobFault → Type 0
IsRefused deal DeckShort = IsDeckShort deal.state
IsRefused deal AboveLimit = (¬ IsDeckShort deal.state) × IsAboveLimit deal.state

-- an equity that was asked for, of a deal: its full tally, or the fault for which it isn't counted
abbrev pub IsEquityOf : Showdown → Equity → Type 0
IsEquityOf deal NotAsked = ⊥
IsEquityOf deal (Refused fault) = IsRefused deal fault
IsEquityOf deal (Counted sums) = IsFull deal sums

-- the equity of a deal, counted: its full tally, of one runout or more
abbrev pub IsCountOf : Showdown → Equity → Type 0
IsCountOf deal NotAsked = ⊥
IsCountOf deal (Refused fault) = ⊥
IsCountOf deal (Counted sums) = IsFull deal sums × (0 < sums.runouts)

-- whether an equity is asked for
abbrev pub is_asked : Equity → Bool
is_asked NotAsked = false
is_asked (Refused fault) = true
is_asked (Counted sums) = true

-- an equity of a deal, where one is asked for
abbrev pub IsOf : Showdown → Equity → Type 0
IsOf deal NotAsked = Unit {0}
IsOf deal (Refused fault) = IsEquityOf deal (Refused fault)
IsOf deal (Counted sums) = IsEquityOf deal (Counted sums)

-- an equity of an all-in: that of its table, where its cards are known. Where they aren't, any
abbrev pub IsOfAllIn : AllIn → Equity → Type 0
IsOfAllIn None equity = Unit {0}
IsOfAllIn Unknown equity = Unit {0}
IsOfAllIn (Known street seats table) equity = IsOf (deal_of table) equity

-- an equity that may stand beside the verdict on a hand: that of its all-in, where one is asked for
abbrev pub IsOfHand : HandAudit → Equity → Type 0
IsOfHand (Rejected line cause hundredths) equity = Unit {0}
IsOfHand (Accepted settlement all_in names players) equity = IsOfAllIn all_in equity
