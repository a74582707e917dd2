use Rattle.std.proofs.Common.{Ok, Err, refl}
use Rattle.run_loop.specs.declared.write_fault.WriteFault.TheVariants.{Failed, Memory}
use Rattle.run_loop.proofs.PlanFacts.{plan_makes}
use Rattle.run_loop.proofs.RunFacts.{made_in_full}
use Rattle.run_loop.proofs.run.Run.report_made.Goals as goal

pub returns-in-Ok : goal.returns-in-Ok
returns-in-Ok g c = (Ok c.in-Ok.rejected, c.status_of.ensures, made_in_full g.K.Sink.writes c.args.self.now.asked _ _ (Ok c.in-Ok.rejected) (plan_makes c.args.self.now.asked.mode c.requires.plan) c.in-Ok.ensures)

pub returns-in-Err-Failed : goal.returns-in-Err-Failed
returns-in-Err-Failed g c = (Err Failed, refl, made_in_full g.K.Sink.writes c.args.self.now.asked _ _ (Err Failed) (plan_makes c.args.self.now.asked.mode c.requires.plan) (rw c.in-Err-Failed.field-0-is at c.in-Err-Failed.ensures))

pub returns-in-Err-Memory : goal.returns-in-Err-Memory
returns-in-Err-Memory g c = (Err Memory, refl, made_in_full g.K.Sink.writes c.args.self.now.asked _ _ (Err Memory) (plan_makes c.args.self.now.asked.mode c.requires.plan) (rw c.in-Err-Memory.field-0-is at c.in-Err-Memory.ensures))
