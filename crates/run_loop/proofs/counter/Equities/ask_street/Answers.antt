use Rattle.run_loop.proofs.LaterFacts.{of_street}
use Rattle.run_loop.proofs.counter.Equities.ask_street.Goals as goal

pub returns-in_ok-ask_table : goal.returns-in_ok-ask_table
returns-in_ok-ask_table g c = of_street c.args.state.now c.in-Some.table _ c.in-Some.is c.requires.counted c.in_ok-ask_table.ensures
