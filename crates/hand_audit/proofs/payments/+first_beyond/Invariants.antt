use Rattle.std.proofs.Common.{length}
use Rattle.hand_audit.proofs.payments.+first_beyond.Given as goal

abbrev pub decreases-first_beyond : goal.decreases-first_beyond
decreases-first_beyond l = length l.pays.now
