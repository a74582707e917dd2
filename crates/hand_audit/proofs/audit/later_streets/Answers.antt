use Rattle.std.proofs.lemmas.Result.{IfOk-weaker}
use Rattle.line_text.specs.Lines.{lines}
use Rattle.hand_audit.proofs.lemmas.lines.ReadHands.{known_streets}
use Rattle.hand_audit.proofs.audit.later_streets.Goals as goal

pub returns : goal.returns
returns c = IfOk-weaker c.later_streets.result _ _ (λ states made. known_streets c.args.first_line (lines c.args.bytes.now) states.items c.requires.accepted (λ audit known. made c.args.first_line (lines c.args.bytes.now) audit c.in_ok-hand.ensures.read known)) c.later_streets.ensures
