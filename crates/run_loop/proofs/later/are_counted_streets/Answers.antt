use Rattle.run_loop.proofs.LaterFacts.{one_more_counted}
use Rattle.run_loop.proofs.later.are_counted_streets.Goals as goal

pub loop-state-preserved : goal.loop-state-preserved
loop-state-preserved c =
    one_more_counted c.args.table.now c.args.states.now c.loop-state.state-index c.state-item.result c.loop-state-test.true c.state-item.is c.loop-state.invariant c.is_counted_street.ensures
