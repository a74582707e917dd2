-- The names of why a line departs.
use Rattle.std.specs.Prelude.{ℕ, List, codes}
use Rattle.hand_events.specs.BetFaultNames.{fault_name as bet_name}
use Rattle.hand_events.specs.TextFaultNames.{fault_name as text_name}
use Rattle.hand_verdict.specs.declared.cause.Cause.{Cause}
use Rattle.hand_verdict.specs.declared.cause.Cause.TheVariants.{Text, Bet, Chips, Split, Unfinished}

-- the name of a cause, without what it carries: that of its fault, where it has one
abbrev pub cause_name : Cause → List ℕ
cause_name (Text fault) = text_name fault
cause_name (Bet fault) = bet_name fault
cause_name (Chips stated counted) = codes "Chips"
cause_name (Split seat due got) = codes "Split"
cause_name Unfinished = codes "Unfinished"
