use Rattle.std.proofs.Common.{◌≡◌, ◌-◌, ◌≤◌, ◌++◌, [], length, replicate}
use Rattle.crossbeam_deque.specs.Handles.{worker_view, worker_index, worker_capacity, worker_deque, worker_flavor}
use Rattle.worker_seats.specs.Claims.{claim}
use Rattle.worker_seats.specs.Lanes.{blocks_to}
use Rattle.worker_seats.proofs.pushes.push_all.Given as goal

abbrev pub invariant-loop-block : goal.invariant-loop-block
invariant-loop-block g l = (worker_deque l.owner ≡ worker_deque l.fn.owner) × (worker_flavor l.owner ≡ worker_flavor l.fn.owner) × (worker_capacity l.fn.owner ≤ worker_capacity l.owner)
    × (worker_view l.owner ≡ claim (g.N.Naming.all - 1) (blocks_to l.workers l.block l.deque) []) × (worker_index l.owner ≡ length (blocks_to l.workers l.block l.deque))

abbrev pub invariant-loop : goal.invariant-loop
invariant-loop g l = (worker_deque l.owner ≡ worker_deque l.fn.owner) × (worker_flavor l.owner ≡ worker_flavor l.fn.owner) × (worker_capacity l.fn.owner ≤ worker_capacity l.owner)
    × (worker_view l.owner ≡ claim (g.N.Naming.all - 1) (blocks_to l.workers l.blocks l.deque ++ replicate l.counter l.blocks) []) × (worker_index l.owner ≡ length (blocks_to l.workers l.blocks l.deque ++ replicate l.counter l.blocks))
