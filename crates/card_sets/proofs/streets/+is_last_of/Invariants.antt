use Rattle.std.proofs.Common.{length}
use Rattle.card_sets.proofs.streets.+is_last_of.Given as goal

abbrev pub decreases-is_last_of : goal.decreases-is_last_of
decreases-is_last_of l = length l.streets.now
