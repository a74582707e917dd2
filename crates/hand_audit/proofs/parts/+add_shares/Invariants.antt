use Rattle.std.proofs.Common.{length}
use Rattle.hand_audit.proofs.parts.+add_shares.Given as goal

abbrev pub decreases-add_shares : goal.decreases-add_shares
decreases-add_shares l = length l.shares.now
