use Rattle.std.proofs.Common.{ap, arith, length}
use Rattle.board_ranks.proofs.three_ranks.ThreeRanks.none.Goals as goal

pub invariant_of-result : goal.invariant_of-result
invariant_of-result c = record { right = λ four. absurd (omega (arith, four, ap length c.empty.ensures)) }
