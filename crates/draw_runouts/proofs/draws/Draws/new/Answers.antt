use Rattle.std.proofs.Common.{sym, ◌∙◌}
use Rattle.draw_runouts.proofs.draws.Draws.new.Goals as goal

pub invariant_of-result-clause-room : goal.invariant_of-result-clause-room
invariant_of-result-clause-room c = c.in_ok-values.ensures.places

pub invariant_of-result-clause-low_room : goal.invariant_of-result-clause-low_room
invariant_of-result-clause-low_room c = c.in_ok-low_values.ensures.places

pub invariant_of-result-clause-deep : goal.invariant_of-result-clause-deep
invariant_of-result-clause-deep c = c.in_ok-numbers.ensures.nothing ∙ sym c.no_table.ensures.nothing

pub invariant_of-result-clause-planes : goal.invariant_of-result-clause-planes
invariant_of-result-clause-planes c = c.in_ok-numbers.ensures.planes
