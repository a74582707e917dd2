use Rattle.run_loop.proofs.JoinedWrites.{gathers_written}
use Rattle.run_loop.proofs.gathering.gather.Goals as goal

pub returns-clause-order : goal.returns-clause-order
returns-clause-order g c =
    gathers_written g.K.Sink.writes _ _ c.args.block.now c.args.ready.now.items _ c.write_ready.result c.write_ready.ensures.none (rw c.in-Ok.ensures.items at c.write_ready.ensures.order)
