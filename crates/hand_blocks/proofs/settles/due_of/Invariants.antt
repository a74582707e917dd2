use Rattle.std.proofs.Common.{◌≡◌, ◌*◌, ◌≤◌, ◌^◌, take}
use Rattle.std.specs.List.{sum_by}
use Rattle.hand_verdict.specs.SeatSums.{due_by}
use Rattle.hand_blocks.proofs.settles.due_of.Given as goal

abbrev pub invariant-loop-pot : goal.invariant-loop-pot
invariant-loop-pot l = record {
  few : l.due ≤ l.pot-index * 2 ^ 64;
  so_far : l.due ≡ sum_by (λ pot. due_by pot.paid l.seat) (take l.pot-index l.pots);
}
