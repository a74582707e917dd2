use Rattle.std.proofs.Common.{length}
use Rattle.omaha_ranks.proofs.best_choice.+best_own.Given as goal

abbrev pub decreases-best_own : goal.decreases-best_own
decreases-best_own l = length l.rest
