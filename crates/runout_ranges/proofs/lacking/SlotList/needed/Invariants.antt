use Rattle.std.proofs.Common.{◌≡◌, ◌*◌, ◌≤◌, take, sum}
use Rattle.runout_ranges.specs.Slots.{counts_of}
use Rattle.runout_ranges.proofs.lacking.SlotList.needed.Given as goal

abbrev pub invariant-loop-slot : goal.invariant-loop-slot
invariant-loop-slot l = record {
  sum : l.needed ≡ sum (counts_of (take l.slot-index l.slot-items));
  small : l.needed ≤ 255 * l.slot-index;
}
