use Rattle.std.proofs.Common.{refl, subst}
use Rattle.hand_audit.specs.HandReads.{IsEndOf}
use Rattle.hand_audit.proofs.lemmas.splits.SplitHands.{no_split}
use Rattle.hand_audit.proofs.read.HandRead.into_verdict.Goals as goal

pub returns-in-Departs-clause-audit : goal.returns-in-Departs-clause-audit
returns-in-Departs-clause-audit c all read = (subst (IsEndOf all c.args.self.lines) c.in-Departs.is read.end).audit c.args.first_line

pub returns-in-Departs-clause-split : goal.returns-in-Departs-clause-split
returns-in-Departs-clause-split c all read = no_split c.in-Departs.cause all (subst (IsEndOf all c.args.self.lines) c.in-Departs.is read.end).other

pub returns-in-Ends-clause-audit : goal.returns-in-Ends-clause-audit
returns-in-Ends-clause-audit c all read = c.ended_verdict.ensures.audit all c.args.first_line c.args.self.lines (subst (IsEndOf all c.args.self.lines) c.in-Ends.is read.end) refl

pub returns-in-Ends-clause-split : goal.returns-in-Ends-clause-split
returns-in-Ends-clause-split c all read = c.ended_verdict.ensures.split all c.args.self.lines (subst (IsEndOf all c.args.self.lines) c.in-Ends.is read.end)
