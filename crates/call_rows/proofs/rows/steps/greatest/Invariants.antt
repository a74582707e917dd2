use Rattle.std.proofs.Common.{◌≡◌, ◌+◌}
use Rattle.call_rows.proofs.rows.steps.greatest.Given as goal

abbrev pub invariant-loop-byte : goal.invariant-loop-byte
invariant-loop-byte g l = l.steps ≡ l.fn.steps + l.byte-index
