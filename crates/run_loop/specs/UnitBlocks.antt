-- The blocks of the units of an input.
use Rattle.std.specs.Prelude.{◌≡◌, ℕ, ◌+◌, Bool, true, false, if◌then◌else◌, List, [], ◌∷◌, count_by, Option, Some, None}
use Rattle.hand_cuts.specs.Units.{UnitLines}
use Rattle.report_sheet.specs.declared.form.Form.{Form}
use Rattle.run_loop.specs.Histories.{counts_equity, hand_block, is_rejected_hand}
use Rattle.run_loop.specs.Report.{is_rejected_spot, line_block}
use Rattle.command_words.specs.declared.command.Mode.{Mode}
use Rattle.run_loop.specs.declared.block_kinds.SpotKind.{SpotKind}
use Rattle.run_loop.specs.declared.block_kinds.BlockKind.{BlockKind}
use Rattle.run_loop.specs.declared.block_kinds.BlockKind.TheVariants.{Spots, Hands}
pub use Rattle.run_loop.specs.Plans.{listed_kind}
use Rattle.run_loop.specs.Plans.{listed_in, plan_of}
use Rattle.spot_text.specs.Words.{is_blank}

-- what has a block each in the report of a mode
abbrev pub block_kind_in : Mode → Option BlockKind
block_kind_in mode = listed_in (plan_of mode)

-- whether an equity may be counted for a block
abbrev pub counts_equities : BlockKind → Bool
counts_equities (Spots holding) = true
counts_equities (Hands told) = counts_equity told

-- the block of a line, the first of some; a line with no word has none
abbrev pub first_block : Form → SpotKind → ℕ → ℕ → List (List ℕ) → Option (List ℕ)
first_block form holding place number [] = None
first_block form holding place number (line ∷ later) =
    if is_blank line then None else Some (line_block form holding place number line)

abbrev pub is_rejected_first : SpotKind → List (List ℕ) → Bool
is_rejected_first holding [] = false
is_rejected_first holding (line ∷ later) = is_rejected_spot holding line

-- the block of a unit, if it has one; given is the place that a spot has
abbrev pub unit_block : Form → BlockKind → ℕ → UnitLines → Option (List ℕ)
unit_block form (Spots holding) place unit = first_block form holding place unit.first unit.lines
unit_block form (Hands told) place unit = Some (hand_block form told unit)

abbrev pub is_rejected_unit : BlockKind → UnitLines → Bool
is_rejected_unit (Spots holding) unit = is_rejected_first holding unit.lines
is_rejected_unit (Hands told) unit = is_rejected_hand unit

-- the place after a unit by its block, and the block before others
abbrev pub place_behind : ℕ → Option (List ℕ) → ℕ
place_behind place None = place
place_behind place (Some block) = place + 1

abbrev pub before : Option (List ℕ) → List (List ℕ) → List (List ℕ)
before None blocks = blocks
before (Some block) blocks = block ∷ blocks

-- the place after some units, and their blocks
abbrev pub place_after : Form → BlockKind → ℕ → List UnitLines → ℕ
place_after form listed place [] = place
place_after form listed place (unit ∷ later) =
    place_after form listed (place_behind place (unit_block form listed place unit)) later

abbrev pub unit_blocks : Form → BlockKind → ℕ → List UnitLines → List (List ℕ)
unit_blocks form listed place [] = []
unit_blocks form listed place (unit ∷ later) =
    before (unit_block form listed place unit)
    (unit_blocks form listed (place_behind place (unit_block form listed place unit)) later)

abbrev pub rejected_units : BlockKind → List UnitLines → ℕ
rejected_units listed units = count_by (is_rejected_unit listed) units

-- the outcome of making the block of a unit: none, or a block and whether it is rejected
abbrev pub MakesBlock : Form → BlockKind → ℕ → UnitLines → List ℕ → Option Bool → Type 0
MakesBlock form listed place unit block None =
    (unit_block form listed place unit ≡ None) × (is_rejected_unit listed unit ≡ false)
MakesBlock form listed place unit block (Some rejected) =
    (unit_block form listed place unit ≡ Some block) × (is_rejected_unit listed unit ≡ rejected)
