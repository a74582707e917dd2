use Rattle.std.proofs.Common.{◌≡◌, ◌*◌, ◌≤◌, ◌^◌, take}
use Rattle.std.specs.List.{sum_by}
use Rattle.hand_verdict.specs.SeatSums.{got_by}
use Rattle.even_luck.proofs.payments.got_of.Given as goal

abbrev pub invariant-loop-pot : goal.invariant-loop-pot
invariant-loop-pot l = record {
  few : l.got ≤ l.pot-index * 2 ^ 64;
  so_far : l.got ≡ sum_by (λ pot. got_by pot.paid l.seat) (take l.pot-index l.pots);
}
