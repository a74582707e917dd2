use Rattle.hand_cuts.specs.declared.limits.TheConstants.{INPUT_MAX}
use Rattle.std.proofs.Common.{◌≡◌, true, []}
use Rattle.run_loop.specs.UnitBlocks.{counts_equities}
use Rattle.run_loop.specs.Units.{left_over}
use Rattle.run_loop.proofs.GatherFacts.{Gathered}
use Rattle.run_loop.proofs.run.Run.write_blocks.Given as goal

abbrev pub invariant-each : goal.invariant-each
invariant-each g l = Gathered g.S.Source.reads g.K.Sink.writes INPUT_MAX l.fn.self.asked l.listed l.fn.source l.fn.sink l.source l.sink l.self.input l.place l.rejects l.ready.items
    × (counts_equities l.listed ≡ true → l.ready.items ≡ [])

abbrev pub decreases-each : goal.decreases-each
decreases-each g l = left_over INPUT_MAX l.self.input
