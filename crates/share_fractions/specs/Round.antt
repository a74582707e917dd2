use Rattle.std.specs.Prelude.{ℕ, zero, suc, ◌+◌, ◌*◌, ◌/◌, ◌%◌, ◌^◌, List, [], ◌∷◌, ◌++◌}
use Rattle.std.specs.Fmt.{decimal}

-- the fraction a over b with p decimal places, rounded half up once, in units of the last place
unfoldable pub round : ℕ → ℕ → ℕ → ℕ
round a b places = (2 * a * 10 ^ places + b) / (2 * b)

-- the glyph of the digit of n at a place, where the last digit has the place 0
abbrev pub digit_at : ℕ → ℕ → ℕ
digit_at place n = 48 + n / 10 ^ place % 10

-- the last k digits of n, with leading zeros
abbrev pub last_digits : ℕ → ℕ → List ℕ
last_digits zero n = []
last_digits (suc place) n = digit_at place n ∷ last_digits place n

-- n units of the last decimal place, as a whole number, a point, and the places; without places, as
-- a whole number alone
unfoldable pub fixed_text : ℕ → ℕ → List ℕ
fixed_text n zero = decimal n
fixed_text n (suc place) = decimal (n / 10 ^ suc place) ++ 46 ∷ last_digits (suc place) n
