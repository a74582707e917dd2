use Rattle.std.proofs.Common.{rules}
use Rattle.worker_seats.proofs.DequeRule.{finds_few, takes}
use Rattle.worker_seats.proofs.reaches.steal.Goals as goal

pub steal_as-requires-clause-takes : goal.steal_as-requires-clause-takes
steal_as-requires-clause-takes g c = takes _ _ _ (search rules)

pub steal_as-requires-clause-empty : goal.steal_as-requires-clause-empty
steal_as-requires-clause-empty g c = finds_few _ _ _ _ c.requires.front
