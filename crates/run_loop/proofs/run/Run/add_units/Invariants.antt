use Rattle.hand_cuts.specs.declared.limits.TheConstants.{INPUT_MAX}
use Rattle.run_loop.specs.Units.{left_over}
use Rattle.run_loop.proofs.SumOrder.{SumsOrdered}
use Rattle.run_loop.proofs.run.Run.add_units.Given as goal

abbrev pub invariant-hands : goal.invariant-hands
invariant-hands g l = SumsOrdered g.S.Source.reads g.H.HandSums.sums_of INPUT_MAX l.fn.source l.source l.self.input l.sums

abbrev pub decreases-hands : goal.decreases-hands
decreases-hands g l = left_over INPUT_MAX l.self.input
