use Rattle.std.specs.Prelude.{length}
use Rattle.hand_audit.proofs.settling.+settle_pots.Given as goal

abbrev pub decreases-settle_pots : goal.decreases-settle_pots
decreases-settle_pots l = length l.layers.now
