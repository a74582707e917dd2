-- The digits of a written number say the number.
use Rattle.std.proofs.Common.{◌≡◌, ℕ, zero, suc, ◌+◌, ◌*◌, ◌/◌, ◌%◌, ◌<◌, ◌^◌, length, refl, ap, ◌∙◌, arith}
use Rattle.std.specs.Char.{digit_value}
use Rattle.std.specs.Fmt.{decimal}
use Rattle.std.specs.Str.Parse.{digits_value, digits_value_after}
use Rattle.std.proofs.lemmas.Fmt.{decimal_is_IsNumeral_wide}
use Rattle.std.proofs.lemmas.Str.{digit_value_digit}
use Rattle.std.proofs.Math.Arith.{mod-mul}
use Rattle.std.proofs.Math.Nat.{pow-succ', one-le-pow, div-le_self}
use Rattle.share_fractions.specs.Round.{last_digits}

pub length-last_digits : (n places : ℕ) → length (last_digits places n) ≡ places
length-last_digits n zero = refl
length-last_digits n (suc place) = ap suc (length-last_digits n place)

digit_is : (d : ℕ) → d < 10 → digit_value (48 + d) ≡ d
digit_is d small = let is = digit_value_digit (48 + d) (omega arith, omega arith) in omega (arith, is)

last_after : (m n places : ℕ) → digits_value_after 10 m (last_digits places n) ≡ m * 10 ^ places + n % 10 ^ places
last_after m n zero = omega arith
last_after m n (suc place) =
    let d : n / 10 ^ place % 10 < 10 = omega arith in
    let some : 0 < 10 ^ place = one-le-pow place 10 (omega arith) in
    let split : n % (10 * 10 ^ place) ≡ (n / 10 ^ place % 10) * 10 ^ place + n % 10 ^ place = mod-mul n (omega arith) some in
    let power = pow-succ' 10 place in
    ap (λ v. digits_value_after 10 (m * 10 + v) (last_digits place n)) (digit_is (n / 10 ^ place % 10) d)
    ∙ last_after (m * 10 + n / 10 ^ place % 10) n place
    ∙ rw power (omega (arith, split))

pub digits_say : (n places : ℕ) → n < 2 ^ 128 →
    digits_value 10 (decimal (n / 10 ^ places)) * 10 ^ places + digits_value 10 (last_digits places n) ≡ n
digits_say n places small =
    let whole : digits_value 10 (decimal (n / 10 ^ places)) ≡ n / 10 ^ places =
    (decimal_is_IsNumeral_wide (n / 10 ^ places) (omega (arith, div-le_self n (10 ^ places)))).1 in
    let some : 0 < 10 ^ places = one-le-pow places 10 (omega arith) in
    rw (whole, last_after 0 n places) (omega arith)
