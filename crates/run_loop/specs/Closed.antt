-- The closed part of some bytes: what stays a front of the report whatever bytes follow.
use Rattle.std.specs.Prelude.{ℕ, List, []}
use Rattle.hand_cuts.specs.ClosedBytes.{closed_hands}
use Rattle.line_text.specs.Lines.{closed as closed_lines}
use Rattle.command_words.specs.declared.command.Mode.{Mode}
use Rattle.hand_cuts.specs.declared.units.CutKind.{CutKind}
use Rattle.hand_cuts.specs.declared.units.CutKind.TheVariants as cut
use Rattle.run_loop.specs.Plans.{cut_of, plan_of}
use Rattle.run_loop.specs.declared.plans.Plan.{Plan}
use Rattle.run_loop.specs.declared.plans.Plan.TheVariants.{Makes, Reads}

-- a spot is closed where its newline stands in the bytes, and a hand where a later header line stands in them with its newline
abbrev pub closed_units : CutKind → List ℕ → List ℕ
closed_units cut.Lines bytes = closed_lines bytes
closed_units cut.Hands bytes = closed_hands bytes

-- of input that isn't read nothing is closed
abbrev pub closed_by : Plan → List ℕ → List ℕ
closed_by (Reads prints) bytes = closed_units (cut_of prints) bytes
closed_by Makes bytes = []

abbrev pub closed : Mode → List ℕ → List ℕ
closed mode bytes = closed_by (plan_of mode) bytes
