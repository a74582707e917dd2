use Rattle.std.proofs.Common.{length}
use Rattle.omaha_ranks.proofs.best_choice.+best_with.Given as goal

abbrev pub decreases-best_with : goal.decreases-best_with
decreases-best_with l = length l.rest
