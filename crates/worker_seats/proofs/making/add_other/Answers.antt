use Rattle.worker_seats.proofs.DequeRule.{forks}
use Rattle.worker_seats.proofs.making.add_other.Goals as goal

pub another-requires : goal.another-requires
another-requires g c = forks _ _ _ c.requires.parts
