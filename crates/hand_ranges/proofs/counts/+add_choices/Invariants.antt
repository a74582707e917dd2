use Rattle.std.proofs.Common.{◌≤◌, ◌+◌, ◌*◌, length}
use Rattle.range_lines.specs.Choices.{most_choices}
use Rattle.range_lines.specs.RangeSpot.{ranges_in}
use Rattle.hand_ranges.specs.Taken.{chosen}
use Rattle.range_lines.specs.Walks.{GrowsBy, IsWithin, added_by}
use Rattle.hand_ranges.proofs.WalkSums.{first_of}
use Rattle.hand_ranges.proofs.counts.+add_choices.Given as goal

abbrev pub invariant-loop-w : goal.invariant-loop-w
invariant-loop-w l = record {
  grows : GrowsBy l.fn.total l.total (λ column. first_of l.hands l.others (chosen l.taken) l.w-index (added_by (ranges_in l.spot) column));
  within : IsWithin l.total;
  few : l.total.choices ≤ l.fn.total.choices + l.w-index * most_choices l.others;
}

abbrev pub decreases-add_choices : goal.decreases-add_choices
decreases-add_choices l = length l.ranges.now
