use Rattle.std.proofs.Common.{◌≡◌, ◌+◌}
use Rattle.std.specs.List.{sum_by}
use Rattle.worker_seats.specs.declared.seat.Seat.{Seat}
use Rattle.worker_seats.proofs.finishing.finish_book.Given as goal

-- parts and amounts of the seats that are left and of the spare part
abbrev pub invariant-loop-seat : goal.invariant-loop-seat
invariant-loop-seat g l = (l.spare.parts + sum_by (λ (s : Seat _ _). s.desk.part.parts) l.seats.items ≡ g.N.Ledger.parts) × (l.spare.amount + sum_by (λ (s : Seat _ _). s.desk.part.amount) l.seats.items ≡ l.own + sum_by (λ (s : Seat _ _). s.desk.part.amount) l.fn.seats.items)

abbrev pub decreases-loop-seat : goal.decreases-loop-seat
decreases-loop-seat g l = goal.left-loop-seat g l
