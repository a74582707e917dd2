-- Amounts of money and of chips at the beginning of a text.
use Rattle.std.specs.Prelude.{ℕ, ◌+◌, ◌*◌, ◌-◌, ◌==◌, ◌&&◌, not, nat_le, nat_lt, nat_eq, Bool, true, false, if◌then◌else◌, List, [], ◌∷◌, codes, take, drop, fold, Option, Some, None, Result, Ok, Err}
use Rattle.std.specs.List.{prefix_len, starts_with}
use Rattle.std.specs.Char.{is_ascii_digit}
use Rattle.line_text.specs.declared.amounts.Amount.{Amount}
use Rattle.line_text.specs.declared.amounts.AmountFault.{AmountFault}
use Rattle.line_text.specs.declared.amounts.AmountFault.TheVariants.{NotAmount, TooLarge}

-- the number of digits at the beginning of a text, and their value
abbrev pub digit_count : List ℕ → ℕ
digit_count text = prefix_len is_ascii_digit text

abbrev pub number_of : List ℕ → ℕ
number_of digits = fold (λ number digit. number * 10 + (digit - 48)) 0 digits

-- the length of the currency sign at the beginning of a text: of a dollar, a euro, or a pound
abbrev pub sign_length : List ℕ → ℕ
sign_length text =
    if starts_with nat_eq text (codes "$") then 1 else
    (if starts_with nat_eq text (226 ∷ 130 ∷ 172 ∷ []) then 3 else
    (if starts_with nat_eq text (194 ∷ 163 ∷ []) then 2 else 0))

-- whether a text begins with a point
abbrev pub has_point : List ℕ → Bool
has_point text = starts_with nat_eq text (codes ".")

-- an amount as it is written
pub record Written : Type 0 where
  -- whether it has a sign or a point
  pub marked : Bool
  -- whether it has a point
  pub pointed : Bool
  -- the number before the point
  pub whole : ℕ
  -- the number after the point
  pub cents : ℕ
  -- the length in bytes
  pub length : ℕ

-- the digits, either without a point, or with a point and exactly two digits after it
abbrev pub written_digits : ℕ → List ℕ → Option Written
written_digits sign text =
    let count = digit_count text in
    let behind = drop count text in
    let whole = number_of (take count text) in
    if count == 0 then None else
    (if not (has_point behind) then
    Some (record { marked = nat_lt 0 sign; pointed = false; whole = whole; cents = 0; length = sign + count }) else
    (if digit_count (drop 1 behind) == 2 then
    Some (record { marked = true; pointed = true; whole = whole; cents = number_of (take 2 (drop 1 behind)); length = sign + count + 3 })
    else None))

-- the amount at the beginning of a text, if there is one
unfoldable pub written : List ℕ → Option Written
written text = written_digits (sign_length text) (drop (sign_length text) text)

-- the greatest amount
abbrev pub greatest : ℕ
greatest = 999999999999999

-- the amount in hundredths, or in whole chips
abbrev pub units_of : Bool → Written → ℕ
units_of hundredths w = if hundredths then w.whole * 100 + w.cents else w.whole

-- the amount at a place, in the units of the hand: chips have no point
abbrev pub limited : ℕ → Bool → Written → Result Amount AmountFault
limited at hundredths w =
    if w.pointed && not hundredths then Err NotAmount else
    (if nat_le (units_of hundredths w) greatest then
    Ok (record { units = units_of hundredths w; next = at + w.length; marked = w.marked })
    else Err TooLarge)

abbrev pub counted : ℕ → Bool → Option Written → Result Amount AmountFault
counted at hundredths None = Err NotAmount
counted at hundredths (Some w) = limited at hundredths w

abbrev pub amount_at : List ℕ → ℕ → Bool → Result Amount AmountFault
amount_at bytes at hundredths = counted at hundredths (written (drop at bytes))
