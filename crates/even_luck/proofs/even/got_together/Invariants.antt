use Rattle.std.proofs.Common.{◌≡◌, ◌*◌, ◌≤◌, ◌^◌, take}
use Rattle.std.specs.List.{sum_by}
use Rattle.hand_verdict.specs.SeatSums.{got_by}
use Rattle.even_luck.specs.Figures.{paid_from}
use Rattle.even_luck.proofs.even.got_together.Given as goal

abbrev pub invariant-loop-seat : goal.invariant-loop-seat
invariant-loop-seat l = record {
  few : l.got ≤ l.seat-index * 2 ^ 64;
  so_far : l.got ≡ sum_by (λ seat. got_by (paid_from l.pots l.k) seat) (take l.seat-index l.seats);
}
