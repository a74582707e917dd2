-- Codes for outcomes of all pots, and their fields in a number.
use Rattle.std.specs.Prelude.{◌≡◌, ℕ, zero, suc, ◌+◌, ◌*◌, ◌/◌, ◌%◌, ◌<◌, ◌≤◌, ◌==◌, if◌then◌else◌, List, [], ◌∷◌, slice_get, slice_index, slice_index_or, Some}
use Rattle.card_sets.specs.declared.games.Side.{Side}
use Rattle.showdown_tally.specs.Cells.{side_place}
use Rattle.board_runouts.specs.KeptRows.{row_place}
use Rattle.board_runouts.specs.declared.row.Row.{Row}

-- a one in the field of a code, nine bits for each of seven
abbrev pub field : ℕ → ℕ
field zero = 1
field (suc zero) = 512
field (suc (suc zero)) = 262144
field (suc (suc (suc zero))) = 134217728
field (suc (suc (suc (suc zero)))) = 68719476736
field (suc (suc (suc (suc (suc zero))))) = 35184372088832
field (suc (suc (suc (suc (suc (suc n)))))) = 18014398509481984

-- the code whose field has the one
abbrev pub code_of : ℕ → ℕ
code_of add = if add == 1 then 0 else if add == 512 then 1 else if add == 262144 then 2 else if add == 134217728 then 3 else if add == 68719476736 then 4 else if add == 35184372088832 then 5 else 6

-- how many the fields of a sum add at a number, where each field stands for one
unfoldable pub fields_at : List ℕ → ℕ → ℕ → ℕ
fields_at [] sum number = 0
fields_at (end ∷ ends) sum number = (if end == number then sum % 512 else 0) + fields_at ends (sum / 512) number

-- where an outcome of all pots is counted on a side of a pot
abbrev pub end_of : ℕ → Side → List ℕ → ℕ
end_of pot side outcome = slice_index outcome (2 * pot + side_place side)

-- where each outcome of all pots is counted on a side of a pot
unfoldable pub ends_of : ℕ → Side → List (List ℕ) → List ℕ
ends_of pot side [] = []
ends_of pot side (outcome ∷ outcomes) = end_of pot side outcome ∷ ends_of pot side outcomes

-- an outcome is that of the rows of all pots at a place
abbrev pub IsOutcome : List Row → ℕ → List ℕ → Type 0
IsOutcome rows place outcome = (pot : ℕ) (side : Side) (row : Row) → slice_get rows pot ≡ Some row → end_of pot side outcome ≡ row_place row side place

-- a code stands for the outcome of the rows at a place
pub record IsCodeAt (adds : List ℕ) (ends : List (List ℕ)) (rows : List Row) (place code : ℕ) : Type 0 where
  pub inside : code < 7
  pub add_is : slice_index adds place ≡ field code
  pub end_is : IsOutcome rows place (slice_index_or ends code [])

-- one does so at each place for pairs of ranks from the least on
abbrev pub AreCodesAt : List ℕ → List (List ℕ) → List Row → ℕ → Type 0
AreCodesAt adds ends rows least = (place : ℕ) → place < 169 → least ≤ place / 13 → place / 13 ≤ place % 13 → (code : ℕ) × IsCodeAt adds ends rows place code
