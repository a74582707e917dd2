-- The suits that may make a flush of two own cards and a board.
use Rattle.std.specs.Prelude.{◌≡◌, ◌<◌, ◌≤◌, ℕ, length, Option, Some, None, List}
use Rattle.rank_high.specs.Parts.{of_suit}

-- the only suit that the board has more than two cards of, if there is one
abbrev pub IsOnlySuit : List ℕ → Option ℕ → Type 0
IsOnlySuit board None = (suit : ℕ) → suit < 4 → length (of_suit board suit) ≤ 2
IsOnlySuit board (Some only) = (only < 4) × ((suit : ℕ) → suit < 4 → (suit ≡ only → ⊥) → length (of_suit board suit) ≤ 2) × (2 < length (of_suit board only))
