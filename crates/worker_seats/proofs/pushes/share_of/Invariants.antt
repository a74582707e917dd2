use Rattle.std.proofs.Common.{◌≡◌, ◌≤◌, length}
use Rattle.worker_seats.specs.Lanes.{blocks_to}
use Rattle.worker_seats.proofs.pushes.share_of.Given as goal

abbrev pub invariant-loop-block : goal.invariant-loop-block
invariant-loop-block l = (l.share ≡ length (blocks_to l.workers l.block l.deque)) × (l.share ≤ l.block)
