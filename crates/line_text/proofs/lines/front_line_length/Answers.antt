use Rattle.std.proofs.Common.{◌∙◌}
use Rattle.line_text.proofs.LineFacts.{front_line-found, front_line-newline, front_line-none}
use Rattle.line_text.proofs.lines.front_line_length.Goals as goal

pub returns-in_default-clause-value : goal.returns-in_default-clause-value
returns-in_default-clause-value c = front_line-none c.args.bytes.now c.in_default.ensures.cases

pub returns-then-first-eq10-clause-value : goal.returns-then-first-eq10-clause-value
returns-then-first-eq10-clause-value c = front_line-newline c.args.bytes.now _ _ c.in-Some.ensures.cases.0 c.if-first-eq10.true

pub returns-clause-value : goal.returns-clause-value
returns-clause-value c = c.unwrap_or.ensures ∙ front_line-found _ _ c.memchr.ensures
