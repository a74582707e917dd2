use Rattle.std.proofs.Common.{length}
use Rattle.runout_ranges.proofs.successor.+fill_slots.Given as goal

abbrev pub decreases-fill_slots : goal.decreases-fill_slots
decreases-fill_slots l = length l.slots.now
