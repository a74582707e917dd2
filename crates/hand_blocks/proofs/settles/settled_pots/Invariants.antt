use Rattle.std.proofs.Common.{◌≡◌, drop}
use Rattle.hand_blocks.specs.Settles.{settled_pots_from}
use Rattle.report_sheet.specs.Sheets.{with_lines}
use Rattle.hand_blocks.proofs.settles.settled_pots.Given as goal

abbrev pub invariant-loop-k : goal.invariant-loop-k
invariant-loop-k l =
    with_lines l.sheet (settled_pots_from l.fn.sheet.form l.settlement.hundredths l.settlement.fits l.names l.parts l.k (drop l.k l.pot-items))
    ≡ with_lines l.fn.sheet (settled_pots_from l.fn.sheet.form l.settlement.hundredths l.settlement.fits l.names l.parts 0 l.pot-items)
