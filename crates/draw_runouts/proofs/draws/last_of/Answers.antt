use Rattle.std.proofs.Common.{sym, ◌∙◌}
use Rattle.draw_runouts.proofs.DrawSlots.{last_is}
use Rattle.draw_runouts.proofs.draws.last_of.Goals as goal

pub returns-clause-hand : goal.returns-clause-hand
returns-clause-hand c = c.hand_at.ensures ∙ sym (last_is c.args.slots.now).0

pub returns-clause-count : goal.returns-clause-count
returns-clause-count c = sym (last_is c.args.slots.now).1
