use Rattle.worker_seats.proofs.DequeRule.{pushes}
use Rattle.worker_seats.proofs.pushes.push_one.Goals as goal

pub push_as-requires-clause-pushes : goal.push_as-requires-clause-pushes
push_as-requires-clause-pushes g c = pushes _ _ _ _ c.requires.many c.requires.whole
