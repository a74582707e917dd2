-- That an equity is of an all-in has one proof at most.
use Rattle.std.specs.Coded.{×_prop, Unit-prop, le_prop}
use denote.Struct.Props as logic
use mathlib.Core.HLevel.{¬_prop}
use Rattle.card_sets.specs.State.{State}
use Rattle.runout_ranges.specs.Jobs.{IsAboveLimit, IsDeckShort}
use Rattle.runout_ranges.specs.declared.limits.JobFault.{JobFault}
use Rattle.runout_ranges.specs.declared.limits.JobFault.TheVariants.{DeckShort, AboveLimit}
use Rattle.hand_verdict.specs.declared.verdicts.AllIn.{AllIn}
use Rattle.hand_verdict.specs.declared.verdicts.AllIn.TheVariants.{None, Unknown, Known}
use Rattle.showdown_tally.specs.Cells.{Sums}
use Rattle.showdown_tally.specs.Deals.{deal_of}
use Rattle.showdown_tally.specs.Showdown.{Showdown}
use Rattle.even_luck.specs.declared.equity.Equity.{Equity}
use Rattle.even_luck.specs.declared.equity.Equity.TheVariants.{NotAsked, Refused, Counted}
use Rattle.even_luck.specs.Equities.{IsFull, IsOf, IsOfAllIn, IsRefused}

full : (deal : Showdown) (sums : Sums) → IsProp (IsFull deal sums)
full deal sums = Prim.hlevel logic.props

short : (state : State) → IsProp (IsDeckShort state)
short state = le_prop

above : (state : State) → IsProp (IsAboveLimit state)
above state = le_prop

refused : (deal : Showdown) (fault : JobFault) → IsProp (IsRefused deal fault)
refused deal DeckShort = short deal.state
refused deal AboveLimit = ×_prop ¬_prop (above deal.state)

of : (deal : Showdown) (equity : Equity) → IsProp (IsOf deal equity)
of deal NotAsked = Unit-prop
of deal (Refused fault) = refused deal fault
of deal (Counted sums) = full deal sums

pub IsOfAllIn-prop : (all_in : AllIn) (equity : Equity) → IsProp (IsOfAllIn all_in equity)
IsOfAllIn-prop None equity = Unit-prop
IsOfAllIn-prop Unknown equity = Unit-prop
IsOfAllIn-prop (Known street seats table) equity = of (deal_of table) equity
