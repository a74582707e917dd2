use Rattle.std.proofs.Common.{◌∙◌, subst}
use Rattle.hand_audit.specs.HandReads.{IsEndOf}
use Rattle.hand_audit.proofs.lemmas.lines.ReadHands.{chips_departed}
use Rattle.hand_audit.proofs.read.HandRead.chips.Goals as goal

pub returns-in-Ends : goal.returns-in-Ends
returns-in-Ends c first all audit read known = c.ended_chips.ensures first c.args.self.now.lines all audit (subst (IsEndOf all c.args.self.now.lines) c.in-Ends.is read.end) known

pub returns-in-Departs : goal.returns-in-Departs
returns-in-Departs c first all audit read known = c.no_chips.ensures ∙ chips_departed all first c.args.self.now.lines _ _ audit (subst (IsEndOf all c.args.self.now.lines) c.in-Departs.is read.end) known
