use Rattle.std.proofs.Common.{◌≤◌, ◌+◌, ◌*◌, length, map}
use Rattle.hand_ranges.specs.Boards.{AreEndsWithin, EndsGrow, adds_beside, ranges_shown, weighted_in}
use Rattle.range_lines.specs.Choices.{most_choices}
use Rattle.hand_ranges.specs.Taken.{chosen}
use Rattle.hand_ranges.proofs.WalkSums.{first_of}
use Rattle.hand_ranges.proofs.showdowns.+add_shown.Given as goal

abbrev pub invariant-loop-shown : goal.invariant-loop-shown
invariant-loop-shown l = record {
  grows : EndsGrow l.fn.ends l.ends (λ by_set each. first_of (map weighted_in l.hands) (ranges_shown l.others) (chosen l.taken) l.shown-index (adds_beside l.full by_set each));
  within : AreEndsWithin l.ends;
  few : l.ends.choices ≤ l.fn.ends.choices + l.shown-index * most_choices (ranges_shown l.others);
}

abbrev pub decreases-add_shown : goal.decreases-add_shown
decreases-add_shown l = length l.lists.now
