use Rattle.std.proofs.Common.{refl}
use Rattle.line_text.proofs.TextFacts.{text_of-cut}
use Rattle.line_text.proofs.lines.text_of.Goals as goal

pub returns : goal.returns
returns c = text_of-cut c.args.line.now _ c.mark_length.result c.length_without_blanks.result c.mark_length.ensures.value refl c.length_without_blanks.ensures.value
