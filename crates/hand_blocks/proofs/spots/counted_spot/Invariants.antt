use Rattle.std.proofs.Common.{◌≡◌, ◌++◌}
use Rattle.std.specs.List.{flat_map}
use Rattle.report_sheet.specs.Lines.{line_in}
use Rattle.report_sheet.specs.Sheets.{with_lines}
use Rattle.hand_blocks.specs.Spots.{counted_line}
use Rattle.report_sheet.specs.SpotLines.{every_hand, hand_lines}
use Rattle.showdown_tally.specs.Cells.{cell_at, units_at}
use Rattle.hand_blocks.proofs.spots.counted_spot.Given as goal

abbrev pub invariant-loop-hand : goal.invariant-loop-hand
invariant-loop-hand l =
    l.sheet
    ≡ with_lines l.fn.sheet
    (line_in l.fn.sheet.form (counted_line l.place l.known.game l.tally.runouts)
    ++ flat_map (hand_lines l.fn.sheet.form l.known.game l.tally.runouts (cell_at l.tally 0) (units_at l.tally 0)) (every_hand l.hand))
