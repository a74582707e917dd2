use Rattle.worker_seats.proofs.DealtBlocks.{one_deque}
use Rattle.worker_seats.proofs.laws.law_each_block_has_one_deque.Goals as goal

pub returns : goal.returns
returns c = one_deque
