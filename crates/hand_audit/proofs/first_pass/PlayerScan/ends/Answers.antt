use Rattle.std.proofs.Common.{arith}
use Rattle.hand_audit.proofs.first_pass.PlayerScan.ends.Goals as goal

pub returns-then-len-lt-READS_MAX-clause-found : goal.returns-then-len-lt-READS_MAX-clause-found
returns-then-len-lt-READS_MAX-clause-found c g bytes within has = has.found (grind (arith, c.len.ensures, c.if-len-lt-READS_MAX.true))
