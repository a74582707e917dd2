use Rattle.std.proofs.Common.{◌≡◌, take}
use Rattle.steal_core.proofs.lists.Queues.copied.Given as goal

abbrev pub invariant-loop-queue : goal.invariant-loop-queue
invariant-loop-queue l = l.items.items ≡ take l.queue-index l.queues
