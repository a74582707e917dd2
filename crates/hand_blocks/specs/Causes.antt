-- Why a hand is rejected, as words: the name of the cause, and then what it carries.
use Rattle.std.specs.Prelude.{ℕ, Bool, List, [], ◌∷◌, ◌++◌, codes, decimal}
use Rattle.card_sets.specs.CardText.{text_of_card}
use Rattle.hand_events.specs.declared.faults.BetFault.{BetFault}
use Rattle.hand_events.specs.declared.faults.BetFault.TheVariants.{NotInHand, OutOfTurn, NothingOwed, CheckFacingBet, CallAmount, BetFacingBet, RaiseAmount, AboveStack, AllInWord, StreetEarly, StreetOrder, UncalledAmount, CardTwice, PostLate, SeatTwice, TooManyCards}
use Rattle.hand_verdict.specs.declared.cause.Cause.{Cause}
use Rattle.hand_verdict.specs.declared.cause.Cause.TheVariants.{Text, Bet, Chips, Split, Unfinished}
use Rattle.hand_verdict.specs.CauseNames.{cause_name}
use Rattle.report_sheet.specs.Numbers.{money}

-- a seat, as `seat 3`
unfoldable pub seat_words : ℕ → List (List ℕ)
seat_words seat = codes "seat" ∷ decimal seat ∷ []

-- what the fault of an event carries: a seat, as `OutOfTurn seat 3`, an amount, as `CheckFacingBet 2.00`, or a card by its
-- two letters, as `CardTwice As`
unfoldable pub carried_by_fault : Bool → BetFault → List (List ℕ)
carried_by_fault hundredths NotInHand = []
carried_by_fault hundredths (OutOfTurn seat) = seat_words seat
carried_by_fault hundredths NothingOwed = []
carried_by_fault hundredths (CheckFacingBet due) = money hundredths due ∷ []
carried_by_fault hundredths (CallAmount due) = money hundredths due ∷ []
carried_by_fault hundredths BetFacingBet = []
carried_by_fault hundredths (RaiseAmount greatest) = money hundredths greatest ∷ []
carried_by_fault hundredths (AboveStack stack) = money hundredths stack ∷ []
carried_by_fault hundredths AllInWord = []
carried_by_fault hundredths (StreetEarly seat) = seat_words seat
carried_by_fault hundredths StreetOrder = []
carried_by_fault hundredths (UncalledAmount due) = money hundredths due ∷ []
carried_by_fault hundredths (CardTwice card) = text_of_card card ∷ []
carried_by_fault hundredths PostLate = []
carried_by_fault hundredths SeatTwice = []
carried_by_fault hundredths (TooManyCards seat) = seat_words seat

-- a stated pot and what was counted, as `Chips 3500 3400`
unfoldable pub chips_words : Bool → ℕ → ℕ → List (List ℕ)
chips_words hundredths stated counted = money hundredths stated ∷ money hundredths counted ∷ []

-- a payment beyond its tolerance, as `Split seat 1 due 34 got 36`
unfoldable pub split_words : Bool → ℕ → ℕ → ℕ → List (List ℕ)
split_words hundredths seat due got =
    seat_words seat ++ codes "due" ∷ money hundredths due ∷ codes "got" ∷ money hundredths got ∷ []

-- what a cause carries
unfoldable pub carried_by_cause : Bool → Cause → List (List ℕ)
carried_by_cause hundredths (Text fault) = []
carried_by_cause hundredths (Bet fault) = carried_by_fault hundredths fault
carried_by_cause hundredths (Chips stated counted) = chips_words hundredths stated counted
carried_by_cause hundredths (Split seat due got) = split_words hundredths seat due got
carried_by_cause hundredths Unfinished = []

-- any cause
abbrev pub cause_words : Bool → Cause → List (List ℕ)
cause_words hundredths cause = cause_name cause ∷ carried_by_cause hundredths cause
