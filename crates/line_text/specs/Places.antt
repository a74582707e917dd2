-- The places of a line in the bytes.
use Rattle.std.specs.Prelude.{ℕ, ◌+◌, ◌<◌, ◌≤◌, if◌then◌else◌, nat_eq, List, length, drop}
use Rattle.std.specs.List.{starts_with}
use Rattle.line_text.specs.declared.lines.Line.{Line}
use Rattle.line_text.specs.Lines.{front_line, has_newline, mark, text_of}

-- the length of the mark of a line, in bytes
abbrev pub mark_length : List ℕ → ℕ
mark_length line = if starts_with nat_eq line mark then 3 else 0

-- the length of the first newline, in bytes
abbrev pub newline_length : List ℕ → ℕ
newline_length bytes = if has_newline bytes then 1 else 0

-- the places of the line that begins at a place: its text begins after a mark and has the length of
-- the text, and the next line begins after a newline
abbrev pub line_at : List ℕ → ℕ → Line
line_at bytes start =
    let rest = drop start bytes in
    let line = front_line rest in
    let first = start + mark_length line in record {
      first = first;
      end = first + length (text_of line);
      next = start + length line + newline_length rest;
    }

-- the places are in order and within the bytes, and the next line begins later
pub record IsWithin (start length : ℕ) (line : Line) : Type 0 where
  pub ordered : line.first ≤ line.end
  pub before_next : line.end ≤ line.next
  pub inside : line.next ≤ length
  pub forward : start < line.next
