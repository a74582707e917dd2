use Rattle.std.proofs.Common.{arith}
use Rattle.call_rows.proofs.rows.pots.three_all_in_make_two_pots.Goals as goal

pub has_pots-requires : goal.has_pots-requires
has_pots-requires c = omega arith
