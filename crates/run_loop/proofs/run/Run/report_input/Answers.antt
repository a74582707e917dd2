use Rattle.hand_cuts.specs.declared.limits.TheConstants.{INPUT_MAX}
use Rattle.run_loop.proofs.PlanFacts.{plan_reads}
use Rattle.run_loop.proofs.OrderFacts.{in_order_reading}
use Rattle.run_loop.proofs.run.Run.report_input.Goals as goal

pub returns-in-Ok : goal.returns-in-Ok
returns-in-Ok g c = rw c.status_of.ensures (in_order_reading g.S.Source.reads g.K.Sink.writes INPUT_MAX c.args.self.now.asked _ _ _ _ _ (plan_reads c.args.self.now.asked.mode c.args.prints c.requires.plan) c.in-Ok.ensures)

pub returns-in-Err-Failed : goal.returns-in-Err-Failed
returns-in-Err-Failed g c = in_order_reading g.S.Source.reads g.K.Sink.writes INPUT_MAX c.args.self.now.asked _ _ _ _ _ (plan_reads c.args.self.now.asked.mode c.args.prints c.requires.plan) (rw c.in-Err-Failed.field-0-is at c.in-Err-Failed.ensures)

pub returns-in-Err-Memory : goal.returns-in-Err-Memory
returns-in-Err-Memory g c = in_order_reading g.S.Source.reads g.K.Sink.writes INPUT_MAX c.args.self.now.asked _ _ _ _ _ (plan_reads c.args.self.now.asked.mode c.args.prints c.requires.plan) (rw c.in-Err-Memory.field-0-is at c.in-Err-Memory.ensures)
