use Rattle.line_text.proofs.LawFacts.{all_close_lines}
use Rattle.line_text.proofs.lines.law_closed_lines.Goals as goal

pub returns : goal.returns
returns c = all_close_lines
