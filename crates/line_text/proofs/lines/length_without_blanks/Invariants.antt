use Rattle.std.proofs.Common.{◌≡◌, ◌≤◌, length, take}
use Rattle.line_text.specs.Lines.{without_blanks}
use Rattle.line_text.proofs.lines.length_without_blanks.Given as goal

abbrev pub invariant-loop-end : goal.invariant-loop-end
invariant-loop-end l = record {
  within : l.end ≤ length l.line;
  same : without_blanks (take l.end l.line) ≡ without_blanks l.line;
}

abbrev pub decreases-loop-end : goal.decreases-loop-end
decreases-loop-end l = l.end
