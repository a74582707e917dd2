use Rattle.std.specs.Prelude.{length}
use Rattle.hand_audit.proofs.known_tables.+all_empty.Given as goal

abbrev pub decreases-all_empty : goal.decreases-all_empty
decreases-all_empty l = length l.sets.now
