use Rattle.std.proofs.Common.{◌≡◌, ◌-◌, [], take, drop, replicate, length}
use Rattle.range_lines.specs.Choices.{hands_in}
use Rattle.hand_ranges.proofs.taken.Taken.padded.Given as goal

abbrev pub invariant-loop-place : goal.invariant-loop-place
invariant-loop-place l = record {
  ten : length l.hands ≡ 10;
  front : take l.place l.hands ≡ hands_in (take l.place l.self.hands);
  back : drop l.place l.hands ≡ replicate (10 - l.place) [];
}
