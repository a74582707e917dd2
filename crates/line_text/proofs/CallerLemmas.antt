-- The lemmas that other crates may cite.

-- The front line of some bytes: it is a front of them, a search for a newline finds its end, and it is the first of the lines.
pub use Rattle.line_text.proofs.LineFacts.{cut_lines-front, front_line-found, front_line-take, lines-front}
-- What a line says is a part of it, without its mark and the blanks at its end.
pub use Rattle.line_text.proofs.TextFacts.{without_blanks-take, without_mark-drop}
-- The lines up to the last newline come first, and after them comes at most one.
pub use Rattle.line_text.proofs.LawFacts.{all_close_lines}
-- The first place of a text that passes, or its length.
pub use Rattle.line_text.proofs.Digits.{place_or_end}
-- The digits at the front of a text are digits alone.
pub use Rattle.line_text.proofs.Digits.{front_digits}
