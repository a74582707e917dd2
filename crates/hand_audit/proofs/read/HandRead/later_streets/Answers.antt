use Rattle.std.proofs.Common.{◌∙◌, subst}
use Rattle.std.proofs.lemmas.Result.{IfOk-weaker}
use Rattle.hand_audit.specs.HandReads.{IsEndOf}
use Rattle.hand_audit.proofs.lemmas.lines.ReadHands.{none_departed}
use Rattle.hand_audit.proofs.read.HandRead.later_streets.Goals as goal

pub returns-in-Ends : goal.returns-in-Ends
returns-in-Ends c = IfOk-weaker c.ended_streets.result _ _ (λ states made first all audit read known. made first c.args.self.now.lines all audit (subst (IsEndOf all c.args.self.now.lines) c.in-Ends.is read.end) known) c.ended_streets.ensures

pub returns-in-Departs : goal.returns-in-Departs
returns-in-Departs c first all audit read known = c.new.ensures.items ∙ none_departed all first c.args.self.now.lines _ _ audit (subst (IsEndOf all c.args.self.now.lines) c.in-Departs.is read.end) known
