-- The units of the input, as they are read.
use Rattle.std.specs.Prelude.{◌≡◌, ℕ, ◌+◌, ◌-◌, ◌≤◌, Bool, true, false, List, length}
use Rattle.hand_audit.specs.Departs.{begins_hand}
use Rattle.hand_cuts.specs.Cutters.{new_cutter, seen}
use Rattle.hand_cuts.specs.Units.{UnitLines}
use Rattle.line_text.specs.Lines.{lines}
use Rattle.hand_cuts.specs.declared.units.CutKind.{CutKind}
use Rattle.hand_cuts.specs.declared.units.CutKind.TheVariants.{Hands}
use Rattle.hand_cuts.specs.declared.units.Unit.{Unit as UnitPlace}
use Rattle.command_words.specs.declared.command.Mode.{Mode}
use Rattle.run_loop.specs.Plans.{cut_in, plan_of}
use Rattle.run_loop.specs.declared.reading.Ending.{Ending}
use Rattle.run_loop.specs.declared.reading.Ending.TheVariants.{Whole, Failed, TooLong, Open}
use Rattle.run_loop.specs.declared.reading.Input.{Input}
use Rattle.run_loop.specs.declared.units.UnitText.{UnitText}

-- what the input of a mode is cut into
abbrev pub unit_kind : Mode → CutKind
unit_kind mode = cut_in (plan_of mode)

-- whether the reading came to the end of the input
abbrev pub is_whole : Ending → Bool
is_whole Whole = true
is_whole Failed = false
is_whole TooLong = false
is_whole Open = false

-- nothing was read
abbrev pub started : CutKind → Input
started kind = record { cutter = new_cutter kind; ending = Open }

-- how many bytes may still be handed out: those that are held and weren't, and those that may still be read
abbrev pub left_over : ℕ → Input → ℕ
left_over limit input = limit - input.cutter.given + (length input.cutter.held - input.cutter.at)

-- a unit at its places in the bytes that are held; a hand begins with its header line
pub record IsUnit (limit : ℕ) (kind : CutKind) (held : List ℕ) (unit : UnitPlace) : Type 0 where
  pub begins : kind ≡ Hands → begins_hand (seen held unit).lines ≡ true
  pub ordered : unit.first ≤ unit.end
  pub within : unit.end ≤ length held
  pub numbers : unit.first_line + length (seen held unit).lines ≤ limit + 1

-- the lines of a unit, with the number of the first line
abbrev pub unit_lines : UnitText → UnitLines
unit_lines text = record { first = text.first; lines = lines text.bytes.now }
