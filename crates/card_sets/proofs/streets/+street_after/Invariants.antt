use Rattle.std.proofs.Common.{length}
use Rattle.card_sets.proofs.streets.+street_after.Given as goal

abbrev pub decreases-street_after : goal.decreases-street_after
decreases-street_after l = length l.streets.now
