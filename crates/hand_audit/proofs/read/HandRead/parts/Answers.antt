use Rattle.std.proofs.Common.{◌∙◌, subst}
use Rattle.hand_audit.specs.HandReads.{IsEndOf}
use Rattle.hand_audit.proofs.lemmas.lines.ReadHands.{ended_parts, parts_departed}
use Rattle.hand_audit.proofs.read.HandRead.parts.Goals as goal

pub returns-in_ok-parts-in-Ends : goal.returns-in_ok-parts-in-Ends
returns-in_ok-parts-in-Ends c first all audit read known =
    c.in_ok-parts-in-Ends.ensures ∙ c.deref.ensures.value ∙ ended_parts all first c.args.self.now.lines c.in-Ends.hand audit (subst (IsEndOf all c.args.self.now.lines) c.in-Ends.is read.end) known

pub returns-in-Departs : goal.returns-in-Departs
returns-in-Departs c first all audit read known = c.new.ensures.items ∙ parts_departed all first c.args.self.now.lines _ _ audit (subst (IsEndOf all c.args.self.now.lines) c.in-Departs.is read.end) known
