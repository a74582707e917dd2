use Rattle.std.proofs.Common.{◌-◌, length}
use Rattle.showdown_tally.specs.Tallies.{runouts_after}
use Rattle.job_blocks.specs.Blocks.{blocks_of}
use Rattle.worker_seats.proofs.WorkerWalk.{IsWorking, from_own, and_below}
use Rattle.worker_seats.proofs.seat.Seat.work.Given as goal

abbrev pub invariant-loop-deque : goal.invariant-loop-deque
invariant-loop-deque g l = IsWorking (g.N.Naming.all - 1) (blocks_of (length (runouts_after g.N.Naming.deal.state))) (from_own l.worker l.deque) l.fn.self.lanes.items l.lanes.items l.fn.self.desk.part l.desk.part

abbrev pub invariant-loop-deque-2 : goal.invariant-loop-deque-2
invariant-loop-deque-2 g l = IsWorking (g.N.Naming.all - 1) (blocks_of (length (runouts_after g.N.Naming.deal.state))) (and_below l.worker l.deque) l.fn.self.lanes.items l.lanes.items l.fn.self.desk.part l.desk.part
