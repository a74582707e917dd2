use Rattle.hand_audit.proofs.lemmas.lines.ReadHands.{ended_streets, no_streets}
use Rattle.std.proofs.Common.{◌∙◌}
use Rattle.hand_audit.proofs.read.ended_streets.Goals as goal

pub returns-in-Some : goal.returns-in-Some
returns-in-Some c first count all audit ends known = c.new.ensures.items ∙ no_streets all first count c.args.hand.now _ audit ends c.in-Some.is known

pub returns-in_ok-states-in-None : goal.returns-in_ok-states-in-None
returns-in_ok-states-in-None c first count all audit ends known = ended_streets all first count c.args.hand.now _ audit _ ends c.as_ref-state.ensures c.in-None.is known c.in_ok-states-in-None.ensures
