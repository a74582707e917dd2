use Rattle.std.proofs.Common.{◌≡◌}
use Rattle.std.specs.List.{flat_map}
use Rattle.even_luck.specs.Figures.{every_pot, tally_figures}
use Rattle.hand_blocks.specs.HandEquities.{pot_equity}
use Rattle.report_sheet.specs.Sheets.{with_lines}
use Rattle.showdown_tally.specs.Deals.{deal_of}
use Rattle.hand_blocks.proofs.hand_equities.pot_equities.Given as goal

abbrev pub invariant-loop-k : goal.invariant-loop-k
invariant-loop-k l =
    l.sheet
    ≡ with_lines l.fn.sheet
    (flat_map (pot_equity l.fn.sheet.form (deal_of l.shown.table.now) (tally_figures l.tally) l.shown.names.now l.shown.seats.now) (every_pot l.k))
