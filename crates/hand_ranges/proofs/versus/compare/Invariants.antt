use Rattle.std.proofs.Common.{◌≡◌, ℕ, ◌+◌, ◌*◌, ◌≤◌, take}
use Rattle.std.specs.List.{sum_by}
use Rattle.hand_ranges.specs.Boards.{versus_adds, versus_worth}
use Rattle.hand_ranges.proofs.versus.compare.Given as goal

abbrev pub invariant-loop-shown : goal.invariant-loop-shown
invariant-loop-shown l = record {
  worth : (less same more each : ℕ) → versus_worth l.sums less same more each ≡ sum_by (versus_adds l.cards l.level less same more each) (take l.shown-index l.hands);
  few : l.sums.hands ≤ l.shown-index;
  light : l.sums.less + (l.sums.same + l.sums.more) ≤ 255 * l.sums.hands;
}
