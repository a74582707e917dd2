use Rattle.std.proofs.Common.{◌≡◌, ◌++◌, take, drop}
use Rattle.runout_ranges.specs.Shapes.{slots_of}
use Rattle.street_walk.specs.Streets.{hands_after}
use Rattle.street_walk.proofs.after.deal_hands.Given as goal

abbrev pub invariant-loop-number : goal.invariant-loop-number
invariant-loop-number l = l.hands ≡ hands_after (slots_of l.shape) l.sets 0 (take l.number l.fn.hands) ++ drop l.number l.fn.hands
