use Rattle.std.proofs.Common.{◌≡◌}
use Rattle.std.specs.List.{flat_map}
use Rattle.hand_blocks.specs.HandEquities.{hand_expect}
use Rattle.even_luck.specs.Figures.{tally_figures}
use Rattle.report_sheet.specs.Sheets.{with_lines}
use Rattle.report_sheet.specs.SpotLines.{every_hand}
use Rattle.showdown_tally.specs.Deals.{deal_of}
use Rattle.hand_blocks.proofs.hand_equities.expects.Given as goal

abbrev pub invariant-loop-hand : goal.invariant-loop-hand
invariant-loop-hand l =
    l.sheet
    ≡ with_lines l.fn.sheet
    (flat_map (hand_expect l.fn.sheet.form l.shown.settlement.now l.shown.names.now l.shown.seats.now (deal_of l.shown.table.now) (tally_figures l.tally)) (every_hand l.hand))
