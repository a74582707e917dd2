use Rattle.std.proofs.Common.{◌≡◌, [], take}
use Rattle.std.specs.List.{flat_map}
use Rattle.std.specs.Option.{option_map_or}
use Rattle.report_sheet.specs.Lines.{line_in}
use Rattle.report_sheet.specs.Sheets.{with_lines}
use Rattle.report_sheet.specs.SpotLines.{side_line}
use Rattle.showdown_tally.specs.Cells.{cell_at}
use Rattle.hand_blocks.proofs.spots.hand_lines.Given as goal

abbrev pub invariant-loop-played : goal.invariant-loop-played
invariant-loop-played l =
    l.sheet
    ≡ with_lines l.fn.sheet
    (flat_map (λ played. option_map_or (λ side. line_in l.fn.sheet.form (side_line l.all l.hand side (cell_at l.tally 0 l.hand side))) played [])
    (take l.played-index l.played-items))
