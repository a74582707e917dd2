-- What holds of the report of any bytes.
use Rattle.std.specs.Prelude.{◌≡◌, ℕ, Bool, true, false, List, ◌++◌}
use Rattle.run_loop.specs.Closed.{closed}
use Rattle.run_loop.specs.Report.{report}
use Rattle.command_words.specs.declared.command.Command.{Command}
use Rattle.command_words.specs.declared.command.Mode.{Mode}
use Rattle.command_words.specs.declared.command.Mode.TheVariants.{Totals, Balance, Made}

-- whether each spot or hand has a block of its own; totals and the balance have one block for all
abbrev pub has_blocks : Mode → Bool
has_blocks Totals = false
has_blocks Balance = false
has_blocks Made = false
has_blocks _ = true

-- where each spot or hand has a block of its own, the report of the closed part is a front of the report, whatever bytes follow
abbrev pub ClosedBlocksStay : Type 0
ClosedBlocksStay = (asked : Command) (bytes rest : List ℕ) → has_blocks asked.mode ≡ true
    → (more : List ℕ)
    × (report asked (bytes ++ rest) ≡ report asked (closed asked.mode bytes) ++ more)
