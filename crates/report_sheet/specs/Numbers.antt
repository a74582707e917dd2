-- The numbers of the report: each is rounded once.
use Rattle.std.specs.Prelude.{ℕ, ◌-◌, ◌*◌, nat_lt, Bool, if◌then◌else◌, List, [], ◌∷◌, ◌++◌, codes, decimal}
use Rattle.share_fractions.specs.Round.{round, fixed_text}

-- a number of units of money: chips as a whole number, hundredths with a point and two digits after it
unfoldable pub money : Bool → ℕ → List ℕ
money hundredths units = fixed_text units (if hundredths then 2 else 0)

-- an amount less another, with a sign before it where that is below 0
unfoldable pub difference : Bool → ℕ → ℕ → List ℕ
difference hundredths amount less =
    if nat_lt amount less then codes "-" ++ money hundredths (less - amount)
    else money hundredths (amount - less)

-- a count of all runouts, in percent with two decimal places
unfoldable pub percent : ℕ → ℕ → List ℕ
percent count all = fixed_text (round (100 * count) all 2) 2

-- the part of the pot that a hand may expect, with three decimal places: the units of 1/5040 of a pot that all runouts give
-- it, out of 5040 for each runout
unfoldable pub expected : ℕ → ℕ → List ℕ
expected units all = fixed_text (round units (5040 * all) 3) 3

-- how many runouts end in a way, and how much of all that is
unfoldable pub share : List ℕ → ℕ → ℕ → List (List ℕ)
share way count all = way ∷ decimal count ∷ percent count all ∷ []
