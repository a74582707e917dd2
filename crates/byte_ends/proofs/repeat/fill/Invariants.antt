use Rattle.std.proofs.Common.{◌≡◌, ◌≤◌, ◌-◌, length, take}
use Rattle.byte_ends.specs.Repeat.{repeated}
use Rattle.byte_ends.proofs.repeat.fill.Given as goal

abbrev pub invariant-bytes : goal.invariant-bytes
invariant-bytes l = record {
  within : l.at ≤ length l.piece;
  same : length l.piece ≡ length l.fn.piece;
  filled : take l.at l.piece ≡ repeated l.line l.from l.at;
}

abbrev pub decreases-bytes : goal.decreases-bytes
decreases-bytes l = length l.piece - l.at
