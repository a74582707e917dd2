use Rattle.std.proofs.Common.{◌≡◌, length, map, take}
use Rattle.hand_ranges.specs.Boards.{shown_of}
use Rattle.hand_ranges.proofs.boards.add_board.Given as goal

abbrev pub invariant-loop-place : goal.invariant-loop-place
invariant-loop-place l = record {
  front : take l.place l.room ≡ map (shown_of l.full) (take l.place l.spot.ranges.items);
  size : length l.room ≡ 4;
}
