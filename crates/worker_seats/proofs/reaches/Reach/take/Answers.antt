use Rattle.std.proofs.Common.{rules}
use Rattle.worker_seats.proofs.DequeRule.{finds, takes}
use Rattle.worker_seats.proofs.reaches.Reach.take.Goals as goal

pub pop_as-requires-clause-fifo : goal.pop_as-requires-clause-fifo
pop_as-requires-clause-fifo g c = λ _. takes _ _ _ (search rules)

pub pop_as-requires-clause-empty : goal.pop_as-requires-clause-empty
pop_as-requires-clause-empty g c = finds _ _ _
