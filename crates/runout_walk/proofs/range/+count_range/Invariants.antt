use Rattle.std.proofs.Common.{◌+◌, ◌*◌, length}
use Rattle.runout_walk.proofs.range.+count_range.Given as goal

abbrev pub decreases-count_range : goal.decreases-count_range
decreases-count_range g l = 54 * length l.branch.now.later.now + length l.branch.now.tail.rest
