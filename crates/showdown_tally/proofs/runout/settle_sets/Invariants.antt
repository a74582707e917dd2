use Rattle.showdown_tally.specs.Cells.{Grows}
use Rattle.showdown_tally.specs.Deals.{deal_of}
use Rattle.showdown_tally.specs.Pots.{pots_cells, pots_units}
use Rattle.showdown_tally.proofs.runout.settle_sets.Given as goal

abbrev pub invariant-loop-pot : goal.invariant-loop-pot
invariant-loop-pot l = Grows l.fn.tally l.tally (pots_cells (deal_of l.table) l.sets l.pot) (pots_units (deal_of l.table) l.sets l.pot)
