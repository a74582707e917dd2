use Rattle.std.proofs.Common.{arith}
use Rattle.line_text.specs.Lines.{lines}
use Rattle.run_loop.proofs.hands.audit_chips.Goals as goal

pub into_verdict-audit-requires : goal.into_verdict-audit-requires
into_verdict-audit-requires c = record { numbers = (let few = c.in_ok-hand.ensures.read.few in let n = c.args.text.now.few in omega (arith, few, n)) }

pub returns-clause-verdict : goal.returns-clause-verdict
returns-clause-verdict c = c.into_verdict-audit.ensures.audit (lines c.args.text.now.bytes.now) c.in_ok-hand.ensures.read

pub returns-clause-chips : goal.returns-clause-chips
returns-clause-chips c = c.chips-chips.ensures c.args.text.now.first (lines c.args.text.now.bytes.now) c.into_verdict-audit.result.audit c.in_ok-hand.ensures.read (c.into_verdict-audit.ensures.audit (lines c.args.text.now.bytes.now) c.in_ok-hand.ensures.read)
