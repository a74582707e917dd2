use Rattle.std.proofs.Common.{sym, ◌∙◌}
use Rattle.run_loop.proofs.RangeFacts.{fault_said}
use Rattle.run_loop.proofs.ranges.read.Goals as goal

pub returns-else-is_memory : goal.returns-else-is_memory
returns-else-is_memory c = fault_said c.args.line.now c.in-Err.fault c.in-Err.ensures (sym c.is_memory.ensures ∙ c.if-is_memory.false)
