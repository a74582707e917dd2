use Rattle.std.proofs.Common.{◌≡◌, ◌+◌, take}
use Rattle.draw_runouts.specs.LastHand.{AreSums, is_least, is_most}
use Rattle.draw_runouts.proofs.orders.compare.Given as goal

abbrev pub invariant-loop-value : goal.invariant-loop-value
invariant-loop-value g l = record {
  at_most : AreSums (is_most l.rivals) l.pots (take l.value-index l.values) l.at_most;
  at_least : AreSums (is_least l.rivals) l.pots (take l.value-index l.values) l.at_least;
  steps : l.steps ≡ l.fn.steps + l.value-index;
}
