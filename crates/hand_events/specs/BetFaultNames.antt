-- The names of the rules that an event can break.
use Rattle.std.specs.Prelude.{ℕ, List, codes}
use Rattle.hand_events.specs.declared.faults.BetFault.{BetFault}
use Rattle.hand_events.specs.declared.faults.BetFault.TheVariants.{NotInHand, OutOfTurn, NothingOwed, CheckFacingBet, CallAmount, BetFacingBet, RaiseAmount, AboveStack, AllInWord, StreetEarly, StreetOrder, UncalledAmount, CardTwice, PostLate, SeatTwice, TooManyCards}

-- the name of a fault, without the fields of the fault
abbrev pub fault_name : BetFault → List ℕ
fault_name NotInHand = codes "NotInHand"
fault_name (OutOfTurn seat) = codes "OutOfTurn"
fault_name NothingOwed = codes "NothingOwed"
fault_name (CheckFacingBet due) = codes "CheckFacingBet"
fault_name (CallAmount due) = codes "CallAmount"
fault_name BetFacingBet = codes "BetFacingBet"
fault_name (RaiseAmount greatest) = codes "RaiseAmount"
fault_name (AboveStack stack) = codes "AboveStack"
fault_name AllInWord = codes "AllInWord"
fault_name (StreetEarly seat) = codes "StreetEarly"
fault_name StreetOrder = codes "StreetOrder"
fault_name (UncalledAmount due) = codes "UncalledAmount"
fault_name (CardTwice card) = codes "CardTwice"
fault_name PostLate = codes "PostLate"
fault_name SeatTwice = codes "SeatTwice"
fault_name (TooManyCards seat) = codes "TooManyCards"
