use Rattle.std.proofs.Common.{◌≡◌, ◌*◌, ◌≤◌, drop, sum}
use Rattle.runout_ranges.specs.Slots.{counts_of}
use Rattle.runout_ranges.specs.Ways.{ways}
use Rattle.runout_ranges.proofs.counting.count_runouts.Given as goal

-- the ways to fill the slots so far, times those to fill the others, are all
abbrev pub invariant-loop-slot : goal.invariant-loop-slot
invariant-loop-slot l = record {
  few : l.left ≤ 52;
  enough : sum (counts_of (drop l.slot-index l.slot-items)) ≤ l.left;
  product : l.total * ways l.left (counts_of (drop l.slot-index l.slot-items)) ≡ ways (l.initial.left) (counts_of l.slot-items);
}
