-- Written amounts, and that each is read as it was meant.
use Rattle.std.specs.Prelude.{◌≡◌, ℕ, ◌+◌, ◌*◌, ◌/◌, ◌%◌, ◌≤◌, ◌⊎◌, Bool, true, false, nat_lt, List, [], ◌∷◌, ◌++◌, length, codes, decimal, Ok}
use Rattle.line_text.specs.Amounts.{digit_count, has_point, greatest, amount_at}

-- the currency sign before an amount, or none
pub data Sign : Type 0 where
  NoSign : Sign
  Dollar : Sign
  Euro : Sign
  Pound : Sign

abbrev pub sign_text : Sign → List ℕ
sign_text NoSign = []
sign_text Dollar = codes "$"
sign_text Euro = 226 ∷ 130 ∷ 172 ∷ []
sign_text Pound = 194 ∷ 163 ∷ []

-- a whole number: chips, or money without hundredths
abbrev pub whole_text : Sign → ℕ → List ℕ
whole_text sign number = sign_text sign ++ decimal number

-- the two digits after the point
abbrev pub two_digits : ℕ → List ℕ
two_digits cents = (48 + cents / 10) ∷ (48 + cents % 10) ∷ []

-- hundredths, with a point and two digits
abbrev pub pointed_text : Sign → ℕ → List ℕ
pointed_text sign units = sign_text sign ++ (decimal (units / 100) ++ (codes "." ++ two_digits (units % 100)))

-- the texts that write n units: chips in plain digits; hundredths with a point and two digits, or as a whole number
abbrev pub Writes : Bool → ℕ → List ℕ → Type 0
Writes false units text = (sign : Sign) × (text ≡ whole_text sign units)
Writes true units text =
    ((sign : Sign) × (text ≡ pointed_text sign units))
    ⊎ ((sign : Sign) × (number : ℕ) × (units ≡ number * 100) × (text ≡ whole_text sign number))

-- wherever the text is, it is read as n units, and the reading ends after it; the amount is marked if it has a sign or
-- a point
abbrev pub IsReadAt : List ℕ → List ℕ → List ℕ → Bool → Bool → ℕ → Type 0
IsReadAt before text behind hundredths marked units =
    amount_at (before ++ (text ++ behind)) (length before) hundredths
    ≡ Ok (record { units = units; next = length before + length text; marked = marked })

-- whether a text has a sign
abbrev pub has_sign : Sign → Bool
has_sign sign = nat_lt 0 (length (sign_text sign))

-- chips, if neither a digit nor a point follows
abbrev pub ChipsAreRead : Type 0
ChipsAreRead =
    (sign : Sign) (units : ℕ) (before behind : List ℕ) → units ≤ greatest → digit_count behind ≡ 0 → has_point behind ≡ false →
    IsReadAt before (whole_text sign units) behind false (has_sign sign) units

-- hundredths with a point, if no digit follows
abbrev pub HundredthsAreRead : Type 0
HundredthsAreRead =
    (sign : Sign) (units : ℕ) (before behind : List ℕ) → units ≤ greatest → digit_count behind ≡ 0 →
    IsReadAt before (pointed_text sign units) behind true true units

-- a whole number in a hand that counts hundredths, if neither a digit nor a point follows
abbrev pub WholeMoneyIsRead : Type 0
WholeMoneyIsRead =
    (sign : Sign) (number : ℕ) (before behind : List ℕ) → number * 100 ≤ greatest → digit_count behind ≡ 0 → has_point behind ≡ false →
    IsReadAt before (whole_text sign number) behind true (has_sign sign) (number * 100)
