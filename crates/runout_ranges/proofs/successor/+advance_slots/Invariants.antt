use Rattle.std.proofs.Common.{length}
use Rattle.runout_ranges.proofs.successor.+advance_slots.Given as goal

abbrev pub decreases-advance_slots : goal.decreases-advance_slots
decreases-advance_slots l = length l.slots.now
