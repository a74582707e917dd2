use Rattle.std.proofs.Common.{◌≡◌, ◌≤◌, ◌*◌, ◌^◌}
use Rattle.std.specs.List.{sum_by}
use Rattle.hand_verdict.specs.SeatSums.{got_by}
use Rattle.even_luck.specs.Figures.{every_pot, paid_from}
use Rattle.player_totals.proofs.player_sums.collected_by.Given as goal

abbrev pub invariant-loop-k : goal.invariant-loop-k
invariant-loop-k l = record {
  few : l.collected ≤ l.k * 2 ^ 64;
  so_far : l.collected ≡ sum_by (λ k. got_by (paid_from l.settlement.pots k) l.seat) (every_pot l.k);
}
