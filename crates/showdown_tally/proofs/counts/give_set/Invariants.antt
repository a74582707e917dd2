use Rattle.showdown_tally.specs.Cells.{Grows}
use Rattle.showdown_tally.specs.CountShares.{times_cells, times_units}
use Rattle.showdown_tally.proofs.counts.give_set.Given as goal

abbrev pub invariant-loop-hand : goal.invariant-loop-hand
invariant-loop-hand l = Grows l.fn.tally l.tally
    (times_cells l.stake.pot l.stake.side l.stake.hands l.stake.count l.set l.times l.hand)
    (times_units l.stake.pot l.stake.hands l.stake.count l.halved l.set l.times l.hand)
