use Rattle.std.proofs.Common.{◌≡◌}
use Rattle.call_rows.proofs.rows.histories.cuts.wrong_unit.Given as goal

abbrev pub invariant-loop-text : goal.invariant-loop-text
invariant-loop-text l = l.cutter.closed ≡ l.fn.cutter.closed
