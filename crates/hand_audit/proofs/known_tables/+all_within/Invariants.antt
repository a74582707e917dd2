use Rattle.std.specs.Prelude.{length}
use Rattle.hand_audit.proofs.known_tables.+all_within.Given as goal

abbrev pub decreases-all_within : goal.decreases-all_within
decreases-all_within l = length l.sets.now
