use Rattle.std.proofs.Common.{◌≡◌, ◌≤◌, ◌-◌, length}
use Rattle.hand_cuts.specs.Scans.{IsScan, number_bound}
use Rattle.hand_cuts.proofs.hands.next_head.Given as goal

abbrev pub invariant-lines : goal.invariant-lines
invariant-lines l = record {
  scan : IsScan l.bytes l.scan;
  at : l.scan.at ≡ l.fn.scan.at;
  line : l.scan.line ≡ l.fn.scan.line;
  head : l.scan.head ≡ l.fn.scan.head;
  fewer : number_bound l.bytes l.scan ≤ number_bound l.bytes l.fn.scan;
}

abbrev pub decreases-lines : goal.decreases-lines
decreases-lines l = length l.bytes - l.scan.looked
