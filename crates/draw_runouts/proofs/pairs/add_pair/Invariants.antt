use Rattle.draw_runouts.specs.LastHand.{ArePairsStepped}
use Rattle.draw_runouts.proofs.pairs.add_pair.Given as goal

abbrev pub invariant-loop-pot : goal.invariant-loop-pot
invariant-loop-pot l = record { stepped : ArePairsStepped l.highs l.lows l.value l.low_value l.pot l.fn.sums l.sums }
