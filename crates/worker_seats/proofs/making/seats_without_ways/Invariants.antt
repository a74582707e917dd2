use Rattle.std.proofs.Common.{◌≡◌, ◌+◌, ◌<◌, ◌≤◌, ℕ, length, get_or}
use Rattle.std.specs.Prelude.{vec_capacity}
use Rattle.worker_seats.specs.Starting.{IsSeated}
use Rattle.worker_seats.specs.declared.seat.Seat.{Seat}
use Rattle.worker_seats.proofs.making.seats_without_ways.Given as goal

abbrev pub invariant-loop : goal.invariant-loop
invariant-loop g l = (length l.seats.items ≡ l.counter) × (l.workers ≤ vec_capacity l.seats) × ((w : ℕ) (x : Seat _ _) → w < l.counter → IsSeated l.workers 0 0 (get_or l.seats.items w x))
    × (l.spare.parts + l.counter ≡ l.workers + 1) × (l.spare.amount ≡ l.fn.spare.amount)
