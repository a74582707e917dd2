use Rattle.std.specs.Prelude.{length}
use Rattle.hand_audit.proofs.known_tables.+all_small.Given as goal

abbrev pub decreases-all_small : goal.decreases-all_small
decreases-all_small l = length l.sets.now
