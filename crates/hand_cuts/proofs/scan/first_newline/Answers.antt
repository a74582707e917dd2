use Rattle.hand_cuts.proofs.LineParts.{newline_first, no_newline}
use Rattle.hand_cuts.proofs.scan.first_newline.Goals as goal

pub returns-in_default : goal.returns-in_default
returns-in_default c = no_newline c.args.bytes.now c.in_default.ensures.cases

pub returns-then-first-eq10 : goal.returns-then-first-eq10
returns-then-first-eq10 c = newline_first c.args.bytes.now _ _ c.in-Some.ensures.cases.0 c.if-first-eq10.true
