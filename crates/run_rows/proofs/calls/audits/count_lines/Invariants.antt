use Rattle.std.specs.Prelude.{◌≡◌, ◌+◌, ◌-◌, ◌≤◌, drop, length}
use Rattle.line_text.specs.Lines.{lines}
use Rattle.run_rows.proofs.calls.audits.count_lines.Given as goal

abbrev pub invariant-lines : goal.invariant-lines
invariant-lines l = record { within : l.at ≤ length l.bytes; few : l.count ≤ l.at; so_far : l.count + length (lines (drop l.at l.bytes)) ≡ length (lines l.bytes) }

abbrev pub decreases-lines : goal.decreases-lines
decreases-lines l = length l.bytes - l.at
