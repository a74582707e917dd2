-- Amounts that are written are read as they were meant.
use Rattle.std.proofs.Common.{◌≡◌, ℕ, ◌+◌, ◌-◌, ◌*◌, ◌/◌, ◌%◌, ◌^◌, ◌<◌, ◌≤◌, Bool, true, false, ◌&&◌, List, [], ◌∷◌, ◌++◌, length, take, drop, refl, ap, sym, ◌∙◌, arith, inl, inr, eqb, Some, append_assoc}
use Rattle.std.specs.Prelude.{codes, decimal, nat_lt, nat_le}
use Rattle.std.specs.List.{list_all}
use Rattle.std.specs.Char.{is_ascii_digit}
use Rattle.std.proofs.lemmas.Bool.{and_parts, and_from, le-leb}
use Rattle.std.proofs.lemmas.List.{take_at, drop_at, length-append}
use Rattle.std.proofs.lemmas.List.Sums.{fold-append}
use Rattle.std.proofs.lemmas.Fmt.{decimal_by_steps}
use Rattle.line_text.specs.Amounts.{Written, written, written_digits, digit_count, number_of, sign_length, has_point, greatest, counted, limited, amount_at}
use Rattle.text_laws.specs.WrittenAmounts.{IsReadAt, Sign, NoSign, Dollar, Euro, Pound, sign_text, whole_text, two_digits, pointed_text, has_sign, ChipsAreRead, HundredthsAreRead, WholeMoneyIsRead, Writes}

-- a text of one digit or more that says a number
pub record IsNumeral (n : ℕ) (text : List ℕ) : Type 0 where
  pub digits : list_all is_ascii_digit text ≡ true
  pub some : 0 < length text
  pub value : number_of text ≡ n

digit : (n : ℕ) → n < 10 → is_ascii_digit (48 + n) ≡ true
digit n small = grind arith

all_digits_append : (xs ys : List ℕ) → list_all is_ascii_digit xs ≡ true → list_all is_ascii_digit ys ≡ true → list_all is_ascii_digit (xs ++ ys) ≡ true
all_digits_append [] ys h k = k
all_digits_append (x ∷ xs) ys h k =
    let p = and_parts (is_ascii_digit x) (list_all is_ascii_digit xs) h in
    and_from (is_ascii_digit x) (list_all is_ascii_digit (xs ++ ys)) (p.0) (all_digits_append xs ys (p.1) k)

one_digit : (n : ℕ) → n < 10 → IsNumeral n ((48 + n) ∷ [])
one_digit n small = record { digits = and_from (is_ascii_digit (48 + n)) true (digit n small) refl; some = omega arith; value = omega arith }

one_digit_more : (n : ℕ) (ds : List ℕ) → 10 ≤ n → IsNumeral (n / 10) ds → IsNumeral n (ds ++ ((48 + n % 10) ∷ []))
one_digit_more n ds large h =
    let last : n % 10 < 10 = omega arith in
    record {
      digits = all_digits_append ds ((48 + n % 10) ∷ []) h.digits (and_from (is_ascii_digit (48 + n % 10)) true (digit (n % 10) last) refl);
      some = omega (arith, length-append ds ((48 + n % 10) ∷ []));
      value =
          fold-append (λ (number : ℕ) (d : ℕ). number * 10 + (d - 48)) 0 ds ((48 + n % 10) ∷ [])
          ∙ step (number_of ds) h.value;
    }
  where
    step : (front : ℕ) → front ≡ n / 10 → front * 10 + (48 + n % 10 - 48) ≡ n
    step front e = omega arith

pub decimal_numeral : (n : ℕ) → n < 2 ^ 64 → IsNumeral n (decimal n)
decimal_numeral n small = decimal_by_steps (λ m ds. IsNumeral m ds) one_digit one_digit_more n small

-- digits before a text
pub digits_in_front : (ds behind : List ℕ) → list_all is_ascii_digit ds ≡ true → digit_count behind ≡ 0 → digit_count (ds ++ behind) ≡ length ds
digits_in_front [] behind h none = none
digits_in_front (d ∷ ds) behind h none =
    let p = and_parts (is_ascii_digit d) (list_all is_ascii_digit ds) h in
    let here : is_ascii_digit d ≡ true = p.0 in
    rw here (omega (arith, digits_in_front ds behind (p.1) none))

-- no digit begins the sign of a currency
sign_of_digit : (d : ℕ) (ds : List ℕ) → is_ascii_digit d ≡ true → sign_length (d ∷ ds) ≡ 0
sign_of_digit d ds h =
    let dollar : eqb 36 d ≡ false = grind arith in
    let euro : eqb 226 d ≡ false = grind arith in
    let pound : eqb 194 d ≡ false = grind arith in
    rw (dollar, euro, pound) refl

sign_of_digits : (ds behind : List ℕ) → 0 < length ds → list_all is_ascii_digit ds ≡ true → sign_length (ds ++ behind) ≡ 0
sign_of_digits [] behind some h = absurd (omega arith)
sign_of_digits (d ∷ ds) behind some h = sign_of_digit d (ds ++ behind) ((and_parts (is_ascii_digit d) (list_all is_ascii_digit ds) h).0)

-- after a sign, or none, the digits begin
sign_read : (sign : Sign) (text : List ℕ) → sign_length text ≡ 0 → written (sign_text sign ++ text) ≡ written_digits (length (sign_text sign)) text
unfolding written
sign_read NoSign text none = rw none refl
sign_read Dollar text none = refl
sign_read Euro text none = refl
sign_read Pound text none = refl

-- what digits say without a point after them
plain_digits : (sign n : ℕ) (ds behind : List ℕ) → IsNumeral n ds → digit_count behind ≡ 0 → has_point behind ≡ false →
    written_digits sign (ds ++ behind)
    ≡ Some (let w : Written = record { marked = nat_lt 0 sign; pointed = false; whole = n; cents = 0; length = sign + length ds } in w)
plain_digits sign n ds behind is none no_point =
    let count : digit_count (ds ++ behind) ≡ length ds = digits_in_front ds behind is.digits none in
    let front : take (length ds) (ds ++ behind) ≡ ds = take_at ds behind (length ds) refl in
    let back : drop (length ds) (ds ++ behind) ≡ behind = drop_at ds behind (length ds) refl in
    let some : eqb (length ds) 0 ≡ false = grind (arith, is.some) in
    let value = is.value in
    rw (count, front, back, some, no_point, value) refl

-- what digits say with a point and two digits after them
two_digits_value : (cents : ℕ) → cents < 100 → number_of (two_digits cents) ≡ cents
two_digits_value cents small = omega arith

pointed_digits : (sign n cents : ℕ) (ds behind : List ℕ) → IsNumeral n ds → cents < 100 → digit_count behind ≡ 0 →
    written_digits sign (ds ++ (codes "." ++ (two_digits cents ++ behind)))
    ≡ Some (let w : Written = record { marked = true; pointed = true; whole = n; cents = cents; length = sign + length ds + 3 } in w)
pointed_digits sign n cents ds behind is small none =
    let rest = codes "." ++ (two_digits cents ++ behind) in
    let count : digit_count (ds ++ rest) ≡ length ds = digits_in_front ds rest is.digits refl in
    let front : take (length ds) (ds ++ rest) ≡ ds = take_at ds rest (length ds) refl in
    let back : drop (length ds) (ds ++ rest) ≡ rest = drop_at ds rest (length ds) refl in
    let some : eqb (length ds) 0 ≡ false = grind (arith, is.some) in
    let value = is.value in
    let two : list_all is_ascii_digit (two_digits cents) ≡ true =
    and_from (is_ascii_digit (48 + cents / 10)) (is_ascii_digit (48 + cents % 10) && true) (digit (cents / 10) (omega arith))
    (and_from (is_ascii_digit (48 + cents % 10)) true (digit (cents % 10) (omega arith)) refl) in
    let fraction : digit_count (two_digits cents ++ behind) ≡ 2 = digits_in_front (two_digits cents) behind two none in
    let said = two_digits_value cents small in
    rw (count, front, back, some, fraction, value, said) refl

-- what is written at a place is read there
read_there : (before text behind : List ℕ) (hundredths : Bool) (w : Written) → written (text ++ behind) ≡ Some w →
    amount_at (before ++ (text ++ behind)) (length before) hundredths ≡ limited (length before) hundredths w
read_there before text behind hundredths w is =
    ap (λ t. counted (length before) hundredths (written t)) (drop_at before (text ++ behind) (length before) refl)
    ∙ ap (counted (length before) hundredths) is

within : (units : ℕ) → units ≤ greatest → nat_le units greatest ≡ true
within units fits = le-leb units greatest fits

-- the digits of a sign and a number
number_written : (sign : Sign) (n : ℕ) (behind : List ℕ) → n ≤ greatest → digit_count behind ≡ 0 → has_point behind ≡ false →
    written (whole_text sign n ++ behind)
    ≡ Some (let w : Written = record { marked = has_sign sign; pointed = false; whole = n; cents = 0; length = length (whole_text sign n) } in w)
number_written sign n behind fits none no_point =
    let is = decimal_numeral n (omega arith) in
    ap written (append_assoc (sign_text sign) (decimal n) behind)
    ∙ sign_read sign (decimal n ++ behind) (sign_of_digits (decimal n) behind is.some is.digits)
    ∙ plain_digits (length (sign_text sign)) n (decimal n) behind is none no_point
    ∙ ap (λ (l : ℕ). Some (let w : Written = record { marked = has_sign sign; pointed = false; whole = n; cents = 0; length = l } in w))
    (sym (length-append (sign_text sign) (decimal n)))

pub chips_are_read : ChipsAreRead
chips_are_read sign units before behind fits none no_point =
    let inside : nat_le units greatest ≡ true = within units fits in
    read_there before (whole_text sign units) behind false _ (number_written sign units behind fits none no_point)
    ∙ rw inside refl

pub whole_money_is_read : WholeMoneyIsRead
whole_money_is_read sign number before behind fits none no_point =
    let inside : nat_le (number * 100 + 0) greatest ≡ true = within (number * 100 + 0) (omega arith) in
    let no_more : number * 100 + 0 ≡ number * 100 = omega arith in
    read_there before (whole_text sign number) behind true _ (number_written sign number behind (omega arith) none no_point)
    ∙ rw (inside, no_more) refl

pub hundredths_are_read : HundredthsAreRead
hundredths_are_read sign units before behind fits none =
    let is = decimal_numeral (units / 100) (omega arith) in
    let sum : units / 100 * 100 + units % 100 ≡ units = omega arith in
    let inside : nat_le units greatest ≡ true = within units fits in
    let apart : pointed_text sign units ++ behind ≡ sign_text sign ++ (decimal (units / 100) ++ (codes "." ++ (two_digits (units % 100) ++ behind))) =
    append_assoc (sign_text sign) (decimal (units / 100) ++ (codes "." ++ two_digits (units % 100))) behind
    ∙ ap (λ t. sign_text sign ++ t) (append_assoc (decimal (units / 100)) (codes "." ++ two_digits (units % 100)) behind) in
    let long : length (sign_text sign) + length (decimal (units / 100)) + 3 ≡ length (pointed_text sign units) =
    omega (arith, length-append (sign_text sign) (decimal (units / 100) ++ (codes "." ++ two_digits (units % 100))), length-append (decimal (units / 100)) (codes "." ++ two_digits (units % 100))) in
    read_there before (pointed_text sign units) behind true _
    (ap written apart
    ∙ sign_read sign (decimal (units / 100) ++ (codes "." ++ (two_digits (units % 100) ++ behind))) (sign_of_digits (decimal (units / 100)) (codes "." ++ (two_digits (units % 100) ++ behind)) is.some is.digits)
    ∙ pointed_digits (length (sign_text sign)) (units / 100) (units % 100) (decimal (units / 100)) behind is (omega arith) none)
    ∙ rw (sum, inside, long) refl

-- a text that writes an amount is read as it, marked or not
pub written_amount_is_read : (hundredths : Bool) (units : ℕ) (text before behind : List ℕ) → Writes hundredths units text → units ≤ greatest →
    digit_count behind ≡ 0 → has_point behind ≡ false → (marked : Bool) × IsReadAt before text behind hundredths marked units
written_amount_is_read false units text before behind (sign, is) fits none no_point =
    (has_sign sign, rw is (chips_are_read sign units before behind fits none no_point))
written_amount_is_read true units text before behind (inl (sign, is)) fits none no_point =
    (true, rw is (hundredths_are_read sign units before behind fits none))
written_amount_is_read true units text before behind (inr (sign, number, same, is)) fits none no_point =
    (has_sign sign, rw (is, same) (whole_money_is_read sign number before behind (omega arith) none no_point))
