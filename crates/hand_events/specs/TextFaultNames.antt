-- The names of the faults of a line's text.
use Rattle.std.specs.Prelude.{ℕ, List, codes}
use Rattle.hand_events.specs.declared.events.TextFault.{TextFault}
use Rattle.hand_events.specs.declared.events.TextFault.TheVariants.{UnknownGame, BadHeader, BadAction, BadMarker, BadCards, BadAmount, AmountTooLarge, Cancelled}

-- the name of a fault
abbrev pub fault_name : TextFault → List ℕ
fault_name UnknownGame = codes "UnknownGame"
fault_name BadHeader = codes "BadHeader"
fault_name BadAction = codes "BadAction"
fault_name BadMarker = codes "BadMarker"
fault_name BadCards = codes "BadCards"
fault_name BadAmount = codes "BadAmount"
fault_name AmountTooLarge = codes "AmountTooLarge"
fault_name Cancelled = codes "Cancelled"
