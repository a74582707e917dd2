use Rattle.worker_seats.proofs.DealtBlocks.{taken_once}
use Rattle.worker_seats.proofs.laws.law_each_block_is_taken_once.Goals as goal

pub returns : goal.returns
returns c = taken_once
