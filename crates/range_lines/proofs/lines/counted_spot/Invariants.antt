use Rattle.std.proofs.Common.{◌≡◌, ◌*◌, ◌++◌}
use Rattle.std.specs.List.{flat_map}
use Rattle.card_sets.specs.declared.games.Game.TheVariants.{Holdem}
use Rattle.report_sheet.specs.Lines.{line_in}
use Rattle.report_sheet.specs.Sheets.{with_lines}
use Rattle.report_sheet.specs.SpotLines.{every_hand, hand_lines}
use Rattle.range_lines.specs.Blocks.{counted_line, tally_ends, tally_units}
use Rattle.range_lines.proofs.lines.counted_spot.Given as goal

abbrev pub invariant-loop-hand : goal.invariant-loop-hand
invariant-loop-hand l =
    l.sheet
    ≡ with_lines l.fn.sheet
    (line_in l.fn.sheet.form (counted_line l.place l.tally.choices l.tally.runouts l.tally.weight)
    ++ flat_map (hand_lines l.fn.sheet.form Holdem (l.tally.runouts * l.tally.weight) (tally_ends l.tally) (tally_units l.tally)) (every_hand l.hand))
