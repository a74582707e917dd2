use Rattle.hand_laws.proofs.lemmas.lines.LinesBefore.{rejected_behind}
use Rattle.hand_laws.proofs.lines.law_lines_before_stand.Goals as goal

pub returns : goal.returns
returns c = rejected_behind
