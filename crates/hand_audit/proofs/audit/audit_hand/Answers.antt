use Rattle.line_text.specs.Lines.{lines}
use Rattle.std.proofs.Common.{arith}
use Rattle.hand_audit.proofs.audit.audit_hand.Goals as goal

pub into_verdict-requires : goal.into_verdict-requires
into_verdict-requires c = record { numbers = (let few = c.in_ok-hand.ensures.read.few in let n = c.requires.numbers in omega (arith, few, n)) }

pub returns : goal.returns
returns c = record { verdict = c.into_verdict.ensures.audit (lines c.args.bytes.now) c.in_ok-hand.ensures.read }
