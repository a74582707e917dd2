-- The blocks of the units that were handed out.
use Rattle.std.proofs.Common.{◌≡◌, ℕ, List, [], ◌∷◌, ◌++◌, Some, ap, sym, ◌∙◌}
use Rattle.hand_cuts.specs.Units.{UnitLines, units_in}
use Rattle.report_sheet.specs.declared.form.Form.{Form}
use Rattle.run_loop.specs.Reading.{reported}
use Rattle.run_loop.specs.Report.{blocks}
use Rattle.run_loop.specs.UnitBlocks.{before, block_kind_in, listed_kind, place_after, unit_block, unit_blocks}
use Rattle.run_loop.specs.Units.{is_whole}
use Rattle.command_words.specs.declared.command.Command.{Command}
use Rattle.run_loop.specs.declared.block_kinds.BlockKind.{BlockKind}
use Rattle.run_loop.specs.declared.reading.Ending.{Ending}
use Rattle.run_loop.proofs.UnitFacts.{blocks-append, blocks_by_units}

-- some first units of what is reported, and the blocks after theirs
pub blocks_begun : (command : Command) (listed : BlockKind) (ending : Ending) (bytes : List ℕ) (done more : List UnitLines) → block_kind_in command.mode ≡ Some listed
    → units_in (listed_kind listed) (is_whole ending) 1 bytes ≡ done ++ more
    → blocks command (reported command.mode ending bytes) ≡ unit_blocks command.form listed 1 done ++ unit_blocks command.form listed (place_after command.form listed 1 done) more
blocks_begun command listed ending bytes done more is front =
    blocks_by_units command command.mode listed ending bytes is ∙ ap (unit_blocks command.form listed 1) front ∙ blocks-append command.form listed 1 done more

-- the block of one unit more, and what is written of it
pub blocks_more : (form : Form) (listed : BlockKind) (done : List UnitLines) (u : UnitLines) (place : ℕ) (block : List ℕ) → place ≡ place_after form listed 1 done → unit_block form listed place u ≡ Some block
    → unit_blocks form listed 1 (done ++ u ∷ []) ≡ unit_blocks form listed 1 done ++ block ∷ []
blocks_more form listed done u place block is made =
    blocks-append form listed 1 done (u ∷ []) ∙ ap (λ n. unit_blocks form listed 1 done ++ before (unit_block form listed n u) []) (sym is) ∙ ap (λ b. unit_blocks form listed 1 done ++ before b []) made
