use Rattle.std.proofs.Common.{◌≡◌, take}
use Rattle.std.specs.List.{flat_map}
use Rattle.report_sheet.specs.Lines.{line_in}
use Rattle.hand_blocks.specs.Settles.{given_line}
use Rattle.report_sheet.specs.Sheets.{with_lines}
use Rattle.hand_blocks.proofs.settles.given_lines.Given as goal

abbrev pub invariant-loop-pay : goal.invariant-loop-pay
invariant-loop-pay l =
    l.sheet ≡ with_lines l.fn.sheet (flat_map (λ pay. line_in l.fn.sheet.form (given_line l.hundredths l.names l.k l.checked pay)) (take l.pay-index l.payments))
