use Rattle.std.proofs.Common.{arith}
use Rattle.even_luck.proofs.TallyFacts.{round_small}
use Rattle.even_luck.proofs.expected.expected_by.Goals as goal

pub returns-clause-bound : goal.returns-clause-bound
returns-clause-bound c = rw c.rounded.ensures.value (round_small _ _ (omega arith) (omega arith))
