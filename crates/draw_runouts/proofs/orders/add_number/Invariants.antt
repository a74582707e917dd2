use Rattle.draw_runouts.specs.LastHand.{AreStepped, is_least, is_most}
use Rattle.draw_runouts.proofs.orders.add_number.Given as goal

abbrev pub invariant-loop-pot : goal.invariant-loop-pot
invariant-loop-pot l = record {
  at_most : AreStepped (is_most l.rivals l.value) l.pot l.fn.at_most l.at_most;
  at_least : AreStepped (is_least l.rivals l.value) l.pot l.fn.at_least l.at_least;
}
