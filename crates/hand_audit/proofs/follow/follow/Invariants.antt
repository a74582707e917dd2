use Rattle.std.specs.Prelude.{◌≡◌, ◌+◌, ◌-◌, ◌≤◌, drop, length}
use Rattle.line_text.specs.Lines.{lines}
use Rattle.hand_audit.specs.Keeping.{IsSound}
use Rattle.hand_audit.proofs.lemmas.lines.FollowWalk.{AmongReads, AmongOthers}
use Rattle.hand_audit.proofs.follow.follow.Given as goal

abbrev pub invariant-reads : goal.invariant-reads
invariant-reads l = record {
  sound : IsSound l.state;
  among : AmongReads l.state l.header l.fn.found.players (lines (drop l.fn.start l.bytes)) l.bytes l.left l.fn.found.names l.fn.found.read.next l.count;
}

abbrev pub decreases-reads : goal.decreases-reads
decreases-reads l = length l.left

abbrev pub invariant-lines : goal.invariant-lines
invariant-lines l = record {
  within : l.at ≤ length l.bytes;
  few : l.count ≤ l.at;
  counted : l.count + length (lines (drop l.at l.bytes)) ≡ length (lines (drop l.fn.start l.bytes));
  sound : IsSound l.state;
  among : AmongOthers l.state l.header l.fn.found.players (lines (drop l.fn.start l.bytes)) (lines (drop l.at l.bytes)) l.names l.count;
}

abbrev pub decreases-lines : goal.decreases-lines
decreases-lines l = length l.bytes - l.at
