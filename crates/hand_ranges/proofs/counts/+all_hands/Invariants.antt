use Rattle.std.proofs.Common.{length}
use Rattle.hand_ranges.proofs.counts.+all_hands.Given as goal

abbrev pub decreases-all_hands : goal.decreases-all_hands
decreases-all_hands l = length l.ranges.now
