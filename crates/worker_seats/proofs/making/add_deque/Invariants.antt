use Rattle.std.proofs.Common.{◌≡◌, ◌-◌, []}
use Rattle.crossbeam_deque.specs.Handles.{worker_view, worker_deque, worker_flavor}
use Rattle.worker_seats.specs.Claims.{claim}
use Rattle.worker_seats.specs.Lanes.{pushed_to}
use Rattle.worker_seats.proofs.MadeSeats.{IsDealing}
use Rattle.worker_seats.proofs.making.add_deque.Given as goal

-- with each seat one pass of the owner's is given away
abbrev pub invariant-loop-w : goal.invariant-loop-w
invariant-loop-w g l = (worker_flavor l.owner ≡ 0) × (worker_view l.owner ≡ claim (g.N.Naming.all - 1 - l.w) (pushed_to l.workers l.blocks l.deque) [])
    × IsDealing l.workers l.blocks l.deque l.w (worker_deque l.owner) l.fn.seats l.seats

abbrev pub invariant-loop-w-2 : goal.invariant-loop-w-2
invariant-loop-w-2 g l = (worker_flavor l.owner ≡ 0) × (worker_view l.owner ≡ claim (g.N.Naming.all - l.w) (pushed_to l.workers l.blocks l.deque) [])
    × IsDealing l.workers l.blocks l.deque l.w (worker_deque l.owner) l.fn.seats l.seats
