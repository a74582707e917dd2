use Rattle.std.proofs.Common.{rules, arith, ap, ◌∙◌}
use Rattle.steal_core.specs.Machine.{one_if}
use Rattle.steal_core.proofs.RunEvents.{run_more, refusals_more}
use Rattle.steal_core.proofs.running.run_core.Goals as goal

pub loop-event-preserved : goal.loop-event-preserved
loop-event-preserved c =
    let one = c.one_if_refused-refused.ensures.value ∙ ap one_if c.in_ok-stepped.ensures.answered in (
      run_more c.loop-event.state c.step.new.state c.args.start.now c.args.events.now c.loop-event.event-index _ (search rules) (search rules) c.loop-event.invariant.0 c.in_ok-stepped.ensures.moved,
      refusals_more c.loop-event.state c.step.new.state c.args.start.now c.args.events.now c.loop-event.event-index c.loop-event.refused _ _ (search rules) (search rules) c.loop-event.invariant.1 c.in_ok-stepped.ensures.moved one,
      (let k = c.loop-event.invariant.2 in let m = c.one_if_refused-refused.ensures.most in omega arith),
    )
