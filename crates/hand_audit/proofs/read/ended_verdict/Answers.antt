use Rattle.hand_audit.proofs.lemmas.lines.ReadHands.{ended_accepted, ended_none, ended_split, ended_splits}
use Rattle.hand_audit.proofs.read.ended_verdict.Goals as goal

pub returns-in-Some-clause-audit : goal.returns-in-Some-clause-audit
returns-in-Some-clause-audit c all first count ends last = ended_splits all first count c.args.last c.args.hand c.in-Some.pay c.split_cause.result ends c.in-Some.is c.split_cause.ensures last

pub returns-in-Some-clause-split : goal.returns-in-Some-clause-split
returns-in-Some-clause-split c all count ends = ended_split all count c.args.hand _ c.in-Some.pay c.split_cause.result c.split_hand.result ends c.as_ref-state.ensures c.split_cause.ensures c.split_hand.ensures

pub returns-clause-audit : goal.returns-clause-audit
returns-clause-audit c all first count ends last = ended_accepted all first count c.args.hand _ c.accepted.result ends c.as_ref-state.ensures c.in_default.is c.accepted.ensures

pub returns-clause-split : goal.returns-clause-split
returns-clause-split c all count ends = ended_none all count c.args.hand _ c.accepted.result ends c.as_ref-state.ensures c.accepted.ensures
