use Rattle.std.proofs.Common.{length}
use Rattle.hand_ranges.proofs.counts.+most_choices.Given as goal

abbrev pub decreases-most_choices : goal.decreases-most_choices
decreases-most_choices l = length l.ranges.now
