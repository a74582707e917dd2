use Rattle.std.proofs.Common.{◌≡◌, ◌+◌, ◌-◌, ◌≤◌, ◌++◌, length, map, take}
use Rattle.std.specs.Prelude.{slice_index}
use Rattle.draw_runouts.proofs.last.put_row.Given as goal

abbrev pub invariant-loop-at : goal.invariant-loop-at
invariant-loop-at l = record {
  within : l.at ≤ length l.cards;
  numbers : take (l.used + l.at) l.values ≡ take l.used l.fn.values ++ map (slice_index l.row) (take l.at l.cards);
  room : length l.values ≡ length l.fn.values;
}

abbrev pub decreases-loop-at : goal.decreases-loop-at
decreases-loop-at l = length l.cards - l.at

abbrev pub invariant-loop-last : goal.invariant-loop-last
invariant-loop-last l = record {
  numbers : take (l.used + l.last) l.values ≡ take l.used l.fn.values ++ map (slice_index l.row) (take l.last l.cards);
  room : length l.values ≡ length l.fn.values;
}
