use Rattle.std.proofs.Common.{sym, ap, ◌∙◌}
use Rattle.hand_audit.specs.Streets.{table_in}
use Rattle.run_loop.proofs.LaterFacts.{of_that_table}
use Rattle.run_loop.proofs.later.are_counted_behind.Goals as goal

pub returns-in-Known : goal.returns-in-Known
returns-in-Known c table at = of_that_table c.in-Known.table table (sym (ap table_in c.in-Known.is) ∙ at) c.args.states.now c.are_counted_streets.ensures
