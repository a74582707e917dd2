use Rattle.std.proofs.Common.{length}
use Rattle.hand_audit.proofs.streets.+add_states.Given as goal

abbrev pub decreases-add_states : goal.decreases-add_states
decreases-add_states l = length l.streets.now
