use Rattle.std.proofs.Common.{length}
use Rattle.showdown_tally.specs.Tallies.{runouts_after}
use Rattle.job_blocks.specs.Blocks.{blocks_of}
use Rattle.worker_seats.specs.Starting.{IsSeating}
use Rattle.worker_seats.proofs.seats.Seats.start_with.Given as goal

abbrev pub invariant-loop-deque : goal.invariant-loop-deque
invariant-loop-deque g l = IsSeating l.workers (blocks_of (length (runouts_after g.N.Naming.deal.state))) l.deque l.seats.items
