use Rattle.std.proofs.Common.{◌≡◌}
use Rattle.crossbeam_deque.specs.Handles.{view, IsPassOf, stealer_deque}
use Rattle.worker_seats.proofs.reaches.steal.Given as goal

-- a steal that a third was faster at changed nothing that the pass knows
abbrev pub invariant-loop : goal.invariant-loop
invariant-loop g l = (goal.iterator-loop g).can_next l.iterator' × (goal.iterator-loop g).is_finite l.iterator'
    × IsPassOf (stealer_deque l.thief) l.pass × (view l.pass ≡ view l.fn.pass)
