use Rattle.std.proofs.Common.{◌≡◌, ◌-◌, ◌<◌, ◌≤◌, ℕ, length, get_or}
use Rattle.worker_seats.specs.Joined.{IsJoinable, ShowsSame, HasAll, HasTold}
use Rattle.worker_seats.specs.declared.seat.Seat.{Seat}
use Rattle.worker_seats.proofs.joins.join_all.Given as goal

abbrev pub invariant-loop-deque : goal.invariant-loop-deque
invariant-loop-deque g l = ShowsSame l.fn.seats l.seats × ((d : ℕ) → l.deque ≤ d → d < g.N.Naming.all - 1 → IsJoinable (g.N.Naming.all - 1) l.blocks d l.seats) × ((d : ℕ) → d < l.deque → HasAll (g.N.Naming.all - 1) l.blocks d l.seats)
    × ((d : ℕ) → d < l.deque → HasTold (g.N.Naming.all - 1) l.blocks d l.seats) × ((w : ℕ) (x : Seat _ _) → w < g.N.Naming.all - 1 → length (get_or l.seats w x).lanes.items ≡ g.N.Naming.all - 1)
