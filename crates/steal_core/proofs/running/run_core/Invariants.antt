use Rattle.std.proofs.Common.{◌≡◌, ◌+◌, ◌≤◌, drop}
use Rattle.steal_core.specs.Machine.{run, refusals}
use Rattle.steal_core.proofs.running.run_core.Given as goal

abbrev pub invariant-loop-event : goal.invariant-loop-event
invariant-loop-event l = (run l.state (drop l.event-index l.events) ≡ run l.start l.events) × (l.refused + refusals l.state (drop l.event-index l.events) ≡ refusals l.start l.events) × (l.refused ≤ l.event-index)
