-- The hands and the lines of some bytes.
use Rattle.std.specs.Prelude.{ℕ, ◌+◌, Bool, true, false, if◌then◌else◌, List, [], ◌∷◌}
use Rattle.history_text.specs.Headers.{is_header}
use Rattle.line_text.specs.Lines.{lines, closed}
use Rattle.hand_cuts.specs.declared.units.CutKind.{CutKind}
use Rattle.hand_cuts.specs.declared.units.CutKind.TheVariants.{Hands, Lines}

-- a hand or a line: the number of its first line, and the texts of its lines; the first line of a hand is its header
-- line
pub record UnitLines : Type 0 where
  pub first : ℕ
  pub lines : List (List ℕ)

-- the lines before the first header line, or all
abbrev pub up_to_header : List (List ℕ) → List (List ℕ)
up_to_header [] = []
up_to_header (line ∷ later) = if is_header line then [] else line ∷ up_to_header later

-- the hands of some lines, the first of which has the given number: each header line begins a hand, which ends before
-- the next header line; the lines before the first header line belong to no hand
abbrev pub hands_from : ℕ → List (List ℕ) → List UnitLines
hands_from number [] = []
hands_from number (line ∷ later) =
    if is_header line then record { first = number; lines = line ∷ up_to_header later } ∷ hands_from (number + 1) later
    else hands_from (number + 1) later

-- the lines one by one, each with its number
abbrev pub each_from : ℕ → List (List ℕ) → List UnitLines
each_from number [] = []
each_from number (line ∷ later) = record { first = number; lines = line ∷ [] } ∷ each_from (number + 1) later

abbrev pub units_of : CutKind → ℕ → List (List ℕ) → List UnitLines
units_of Hands number lines = hands_from number lines
units_of Lines number lines = each_from number lines

-- all units except the last
abbrev pub without_last : List UnitLines → List UnitLines
without_last [] = []
without_last (unit ∷ []) = []
without_last (unit ∷ next ∷ later) = unit ∷ without_last (next ∷ later)

-- the lines of some bytes: all lines if the bytes are whole, and the lines with a newline if more may follow
abbrev pub lines_in : Bool → List ℕ → List (List ℕ)
lines_in whole bytes = if whole then lines bytes else lines (closed bytes)

-- if more may follow, the last hand isn't closed
abbrev pub closed_units : CutKind → Bool → List UnitLines → List UnitLines
closed_units Hands false units = without_last units
closed_units Hands true units = units
closed_units Lines _ units = units

-- the units of some bytes, the first line of which has the given number: all units if the bytes are whole, and the
-- closed ones if more may follow; a line is closed by its newline, and a hand by a later header line with a newline
unfoldable pub units_in : CutKind → Bool → ℕ → List ℕ → List UnitLines
units_in kind whole number bytes = closed_units kind whole (units_of kind number (lines_in whole bytes))
