use Rattle.std.proofs.Common.{arith}
use Rattle.board_runouts.proofs.FirstRanks.{zeros}
use Rattle.board_runouts.proofs.row.Row.none.Goals as goal

pub invariant_of-result : goal.invariant_of-result
invariant_of-result c = record { few_mains = λ place. omega (arith, zeros 169 place); few_lows = λ place. omega (arith, zeros 169 place) }
