use Rattle.std.proofs.Common.{arith}
use Rattle.call_rows.proofs.rows.pots.dead_and_folded_chips_are_in_the_pots.Goals as goal

pub has_pots-requires : goal.has_pots-requires
has_pots-requires c = omega arith
