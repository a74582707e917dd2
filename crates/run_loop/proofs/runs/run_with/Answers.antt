use Rattle.std.proofs.Common.{Err, ap, sym, ◌∙◌}
use Rattle.hand_cuts.specs.declared.limits.TheConstants.{INPUT_MAX}
use Rattle.run_loop.proofs.PlanFacts.{plan_makes}
use Rattle.run_loop.proofs.OrderFacts.{in_order_asked, in_order_made, in_order_short}
use Rattle.run_loop.proofs.OrderTells.{order_told}
use Rattle.run_loop.proofs.UsageOrder.{in_order_usage}
use Rattle.run_loop.proofs.runs.run_with.Goals as goal

pub returns-in-Err-Usage-clause-order : goal.returns-in-Err-Usage-clause-order
returns-in-Err-Usage-clause-order g c = in_order_usage g.S.Source.reads g.K.Sink.writes INPUT_MAX _ _ _ _ _ (c.in-Err-Usage.ensures.usage (ap Err c.in-Err-Usage.field-0-is)) c.write_usage.ensures

pub returns-in-Err-Usage-clause-told : goal.returns-in-Err-Usage-clause-told
returns-in-Err-Usage-clause-told g c =
    order_told g.S.Source.reads g.K.Sink.writes g.S.Source.left g.S.Source.faults g.K.Sink.taken g.K.Sink.faults g.met.S.Source.tells g.met.K.Sink.tells INPUT_MAX _ _ _ _ _ _
    (in_order_usage g.S.Source.reads g.K.Sink.writes INPUT_MAX _ _ _ _ _ (c.in-Err-Usage.ensures.usage (ap Err c.in-Err-Usage.field-0-is)) c.write_usage.ensures)

pub returns-in-Err-Memory-clause-order : goal.returns-in-Err-Memory-clause-order
returns-in-Err-Memory-clause-order g c = in_order_short g.S.Source.reads g.K.Sink.writes INPUT_MAX _ _ _

pub returns-in-Err-Memory-clause-told : goal.returns-in-Err-Memory-clause-told
returns-in-Err-Memory-clause-told g c =
    order_told g.S.Source.reads g.K.Sink.writes g.S.Source.left g.S.Source.faults g.K.Sink.taken g.K.Sink.faults g.met.S.Source.tells g.met.K.Sink.tells INPUT_MAX _ _ _ _ _ _
    (in_order_short g.S.Source.reads g.K.Sink.writes INPUT_MAX _ _ _)

pub returns-in-Reads-clause-order : goal.returns-in-Reads-clause-order
returns-in-Reads-clause-order g c =
    in_order_asked g.S.Source.reads g.K.Sink.writes INPUT_MAX _ c.in-Ok.asked _ _ _ _ _ c.in-Ok.ensures.command (rw c.start-run.ensures.asked at c.report_input.ensures)

pub returns-in-Reads-clause-told : goal.returns-in-Reads-clause-told
returns-in-Reads-clause-told g c =
    order_told g.S.Source.reads g.K.Sink.writes g.S.Source.left g.S.Source.faults g.K.Sink.taken g.K.Sink.faults g.met.S.Source.tells g.met.K.Sink.tells INPUT_MAX _ _ _ _ _ _
    (in_order_asked g.S.Source.reads g.K.Sink.writes INPUT_MAX _ c.in-Ok.asked _ _ _ _ _ c.in-Ok.ensures.command (rw c.start-run.ensures.asked at c.report_input.ensures))

pub returns-in-Makes-clause-order : goal.returns-in-Makes-clause-order
returns-in-Makes-clause-order g c =
    let made = rw c.start-run-in-Makes.ensures.asked at c.report_made.ensures in
    in_order_asked g.S.Source.reads g.K.Sink.writes INPUT_MAX _ c.in-Ok.asked _ _ _ _ _ c.in-Ok.ensures.command
    (rw made.1 (in_order_made g.S.Source.reads g.K.Sink.writes INPUT_MAX c.in-Ok.asked made.0 _ _ _ (plan_makes c.in-Ok.asked.mode (sym c.plan_of.ensures ∙ c.in-Makes.is)) made.2))

pub returns-in-Makes-clause-told : goal.returns-in-Makes-clause-told
returns-in-Makes-clause-told g c =
    let made = rw c.start-run-in-Makes.ensures.asked at c.report_made.ensures in
    order_told g.S.Source.reads g.K.Sink.writes g.S.Source.left g.S.Source.faults g.K.Sink.taken g.K.Sink.faults g.met.S.Source.tells g.met.K.Sink.tells INPUT_MAX _ _ _ _ _ _
    (in_order_asked g.S.Source.reads g.K.Sink.writes INPUT_MAX _ c.in-Ok.asked _ _ _ _ _ c.in-Ok.ensures.command
    (rw made.1 (in_order_made g.S.Source.reads g.K.Sink.writes INPUT_MAX c.in-Ok.asked made.0 _ _ _ (plan_makes c.in-Ok.asked.mode (sym c.plan_of.ensures ∙ c.in-Makes.is)) made.2)))
