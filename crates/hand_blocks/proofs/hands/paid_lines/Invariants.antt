use Rattle.std.proofs.Common.{◌≡◌, take}
use Rattle.std.specs.List.{flat_map}
use Rattle.hand_blocks.specs.Hands.{paid_line}
use Rattle.report_sheet.specs.Lines.{line_in}
use Rattle.report_sheet.specs.Sheets.{with_lines}
use Rattle.hand_blocks.proofs.hands.paid_lines.Given as goal

abbrev pub invariant-loop-pay : goal.invariant-loop-pay
invariant-loop-pay l =
    l.sheet ≡ with_lines l.fn.sheet (flat_map (λ pay. line_in l.fn.sheet.form (paid_line l.hundredths l.names l.checked pay)) (take l.pay-index l.payments))
