-- The name of a seat at the beginning of a text. Names are pairs of a seat and the bytes of its
-- name.
use Rattle.std.specs.Prelude.{ℕ, nat_lt, if◌then◌else◌, List, [], ◌∷◌, length, Option, Some, None, option_map, option_and_then}
use Rattle.history_text.specs.Texts.{behind}

-- a seated name at the beginning of a text: its seat, its length, and the text after it and its
-- mark
pub record Fit : Type 0 where
  pub seat : ℕ
  pub length : ℕ
  pub rest : List ℕ

-- the text begins with a name, and the mark follows it
abbrev pub fit : List ℕ → List ℕ → ℕ × List ℕ → Option Fit
fit mark text who =
    option_map (λ rest. record { seat = who.0; length = length who.1; rest = rest }) (option_and_then (λ tail. behind mark tail) (behind (who.1) text))

-- the longer of two, or the first if they have the same length
abbrev pub longer : Option Fit → Option Fit → Option Fit
longer None b = b
longer (Some a) None = Some a
longer (Some a) (Some b) = if nat_lt a.length b.length then Some b else Some a

abbrev pub longest : Option Fit → List ℕ → List ℕ → List (ℕ × List ℕ) → Option Fit
longest best mark text [] = best
longest best mark text (who ∷ names) = longest (longer best (fit mark text who)) mark text names

-- the longest of the names with which a text begins, with the mark after it
unfoldable pub front_name : List ℕ → List ℕ → List (ℕ × List ℕ) → Option Fit
front_name mark text names = longest None mark text names
