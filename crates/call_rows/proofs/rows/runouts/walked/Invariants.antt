use Rattle.runout_ranges.specs.Runouts.{HasMember}
use Rattle.runout_ranges.specs.Shapes.{runouts_of}
use Rattle.call_rows.proofs.rows.runouts.walked.Given as goal

abbrev pub invariant-loop-count : goal.invariant-loop-count
invariant-loop-count l = HasMember (runouts_of l.shape) l.runout
