use Rattle.std.proofs.Common.{◌≡◌, [], take}
use Rattle.std.specs.List.{flat_map}
use Rattle.std.specs.Option.{option_map_or}
use Rattle.hand_blocks.specs.HandEquities.{pot_side_line}
use Rattle.report_sheet.specs.Lines.{line_in}
use Rattle.report_sheet.specs.Sheets.{with_lines}
use Rattle.showdown_tally.specs.Cells.{cell_at}
use Rattle.hand_blocks.proofs.hand_equities.pot_hand.Given as goal

abbrev pub invariant-loop-played : goal.invariant-loop-played
invariant-loop-played l =
    l.sheet
    ≡ with_lines l.fn.sheet
    (flat_map (λ played. option_map_or (λ side. line_in l.fn.sheet.form (pot_side_line l.all l.k l.name side (cell_at l.tally l.k l.hand side))) played [])
    (take l.played-index l.played-items))
