-- Seated names: pairs of a seat and the bytes of its name.
use Rattle.std.specs.Prelude.{ℕ, ◌==◌, ◌&&◌, not, if◌then◌else◌, Bool, List, [], ◌∷◌, Option, Some, None}
use Rattle.std.specs.List.{list_any}
use Rattle.std.specs.Str.{bytes_eq}

-- the seat whose name is the whole text
abbrev pub seat_named : List ℕ → List (ℕ × List ℕ) → Option ℕ
seat_named text [] = None
seat_named text (who ∷ names) = if bytes_eq who.1 text then Some who.0 else seat_named text names

-- whether a seat has a name in the hand
abbrev pub is_seated : ℕ → List (ℕ × List ℕ) → Bool
is_seated seat names = list_any (λ who. who.0 == seat) names

-- whether another seat has the name
abbrev pub is_taken : ℕ → List ℕ → List (ℕ × List ℕ) → Bool
is_taken seat name names = list_any (λ who. bytes_eq who.1 name && not (who.0 == seat)) names

-- the first name of a seat
abbrev pub name_of : ℕ → List (ℕ × List ℕ) → Option (List ℕ)
name_of seat [] = None
name_of seat (who ∷ names) = if who.0 == seat then Some who.1 else name_of seat names
