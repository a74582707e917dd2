use Rattle.run_loop.proofs.JoinedWrites.{gathers_joined, out_fails}
use Rattle.run_loop.proofs.gathering.write_behind.Goals as goal

pub returns-in-Ok-clause-order : goal.returns-in-Ok-clause-order
returns-in-Ok-clause-order g c =
    gathers_joined g.K.Sink.writes _ _ _ c.args.block.now _ _ c.write_all.result c.in-Ok.ensures.none c.in-Ok.ensures.order c.write_all.ensures.order

pub returns-in-Err-clause-order : goal.returns-in-Err-clause-order
returns-in-Err-clause-order g c = out_fails g.K.Sink.writes _ _ _ c.args.block.now _ c.in-Err.ensures.order
