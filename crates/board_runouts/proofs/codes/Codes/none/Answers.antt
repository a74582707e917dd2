use Rattle.std.proofs.Common.{arith}
use Rattle.board_runouts.proofs.CodeSets.{zeros_in}
use Rattle.board_runouts.proofs.codes.Codes.none.Goals as goal

pub invariant_of-result : goal.invariant_of-result
invariant_of-result c = record { few = omega arith; inside = λ code end. omega (arith, zeros_in 7 20 code end) }
