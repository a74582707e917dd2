-- Readers: what is at the beginning of a text and the text after it, or the first fault from the
-- left.
use Rattle.std.specs.Prelude.{ℕ, ◌==◌, ◌&&◌, nat_le, if◌then◌else◌, Bool, true, false, List, length, take, drop, codes, Option, Some, None, option_map, Result, Ok, Err}
use Rattle.std.specs.Str.{bytes_eq}
use Rattle.line_text.specs.declared.amounts.Amount.{Amount}
use Rattle.line_text.specs.declared.amounts.AmountFault.{AmountFault}
use Rattle.line_text.specs.declared.amounts.AmountFault.TheVariants.{NotAmount, TooLarge}
use Rattle.line_text.specs.Amounts.{amount_at, digit_count, number_of}
use Rattle.hand_events.specs.declared.events.TextFault.{TextFault}
use Rattle.hand_events.specs.declared.events.TextFault.TheVariants.{BadAmount, AmountTooLarge}
use Rattle.history_text.specs.Texts.{behind}

infixl 10 ◌>>=◌
infixr 5 ◌otherwise◌
-- one reader after another: the first fault ends the reading
abbrev pub ◌>>=◌ : {A B : Type 0} → Result A TextFault → (A → Result B TextFault) → Result B TextFault
(Ok x) >>= f = f x
(Err e) >>= f = Err e

-- the event of one kind of line, or otherwise that of the other kinds
abbrev pub ◌otherwise◌ : {A : Type 0} → Option A → A → A
(Some x) otherwise y = x
None otherwise y = y

-- a required value, or a fault
abbrev pub or_fault : {A : Type 0} → TextFault → Option A → Result A TextFault
or_fault fault (Some x) = Ok x
or_fault fault None = Err fault

-- nothing is left of a text
abbrev pub is_end : List ℕ → Bool
is_end text = length text == 0

-- an amount at the beginning of a text
abbrev pub money_of : List ℕ → Result Amount AmountFault → Result (ℕ × List ℕ) TextFault
money_of text (Ok amount) = Ok (amount.units, drop amount.next text)
money_of text (Err NotAmount) = Err BadAmount
money_of text (Err TooLarge) = Err AmountTooLarge

unfoldable pub money : Bool → List ℕ → Result (ℕ × List ℕ) TextFault
money hundredths text = money_of text (amount_at text 0 hundredths)

-- an amount at the beginning of a text that must not be 0
unfoldable pub some_money : Bool → List ℕ → Result (ℕ × List ℕ) TextFault
some_money hundredths text = do
  amount ← money hundredths text
  if amount.0 == 0 then Err BadAmount else Ok amount

-- the words that must follow an amount
unfoldable pub follows : List ℕ → List ℕ → Result (List ℕ) TextFault
follows words text = or_fault BadAmount (behind words text)

-- after the last amount of a bet the line ends, or says that the player is all-in
unfoldable pub all_in_end : List ℕ → Result Bool TextFault
all_in_end text =
    if is_end text then Ok false else (if bytes_eq text (codes " and is all-in") then Ok true else Err BadAmount)

-- the last amount of a bet, and whether the line says that the player is all-in
unfoldable pub last_money : Bool → List ℕ → Result (ℕ × Bool) TextFault
last_money hundredths text = do
  paid ← some_money hundredths text
  all_in ← all_in_end paid.1
  Ok (paid.0, all_in)

-- a seat is numbered 1 to 10
abbrev pub seat_of : ℕ → Option ℕ
seat_of number = if nat_le 1 number && nat_le number 10 then Some number else None

-- the digits at the beginning of a text, if there are some, and the text after them
abbrev pub digits_front : List ℕ → Option (List ℕ × List ℕ)
digits_front text =
    let count = digit_count text in
    if count == 0 then None else Some (take count text, drop count text)

-- the seat of these digits, if they are the number of one, and the text after them
unfoldable pub seat_front : List ℕ → Option (Option ℕ × List ℕ)
seat_front text = option_map (λ front. (seat_of (number_of front.0), front.1)) (digits_front text)
