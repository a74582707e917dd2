use Rattle.text_laws.proofs.PlainLines.{texts_hold_no_newline, plain_texts_read_back}
use Rattle.text_laws.proofs.lines.law_lines_read_back.Goals as goal

pub returns : goal.returns
returns c = record { no_newline = texts_hold_no_newline; read_back = plain_texts_read_back }
