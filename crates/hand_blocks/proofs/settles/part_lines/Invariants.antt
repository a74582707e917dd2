use Rattle.std.proofs.Common.{◌≡◌, take}
use Rattle.std.specs.List.{flat_map}
use Rattle.report_sheet.specs.Lines.{line_in}
use Rattle.hand_blocks.specs.Settles.{part_line}
use Rattle.report_sheet.specs.Sheets.{with_lines}
use Rattle.hand_blocks.proofs.settles.part_lines.Given as goal

abbrev pub invariant-loop-share : goal.invariant-loop-share
invariant-loop-share l =
    l.sheet ≡ with_lines l.fn.sheet (flat_map (λ share. line_in l.fn.sheet.form (part_line l.hundredths l.names l.k share)) (take l.share-index l.shares))
