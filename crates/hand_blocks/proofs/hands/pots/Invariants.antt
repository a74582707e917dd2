use Rattle.std.proofs.Common.{◌≡◌, drop}
use Rattle.hand_blocks.specs.Hands.{pots_from}
use Rattle.report_sheet.specs.Sheets.{with_lines}
use Rattle.hand_blocks.proofs.hands.pots.Given as goal

abbrev pub invariant-loop-k : goal.invariant-loop-k
invariant-loop-k l =
    with_lines l.sheet (pots_from l.fn.sheet.form l.hundredths l.fits l.names l.k (drop l.k l.pot-items))
    ≡ with_lines l.fn.sheet (pots_from l.fn.sheet.form l.hundredths l.fits l.names 0 l.pot-items)
