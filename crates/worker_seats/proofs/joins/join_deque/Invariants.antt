use Rattle.std.proofs.Common.{◌≡◌, ◌-◌}
use Rattle.std.specs.Global.{Global}
use Rattle.atomic_blocks.specs.Lent.{RowsId}
use Rattle.crossbeam_deque.specs.Handles.{worker_deque, worker_view}
use Rattle.worker_seats.proofs.JoinedPasses.{IsJoining}
use Rattle.worker_seats.proofs.joins.join_deque.Given as goal

abbrev pub invariant-loop-w : goal.invariant-loop-w
invariant-loop-w g l = (id : RowsId × Global) × (worker_deque l.owner ≡ id) × IsJoining (g.N.Naming.all - 1) l.blocks l.deque id l.w l.fn.seats l.seats (worker_view l.owner)
