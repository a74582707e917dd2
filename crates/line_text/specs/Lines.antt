-- The lines of a text, and the text of each line.
use Rattle.std.specs.Prelude.{ℕ, Bool, ◌||◌, ◌==◌, if◌then◌else◌, nat_eq, List, [], ◌∷◌, map, drop}
use Rattle.std.specs.List.{list_any, starts_with}

-- the byte that ends a line
abbrev pub is_newline : ℕ → Bool
is_newline byte = byte == 10

-- the first line: the bytes up to the first newline, or all bytes
abbrev pub front_line : List ℕ → List ℕ
front_line [] = []
front_line (byte ∷ rest) = if is_newline byte then [] else byte ∷ front_line rest

-- the bytes after the first line and its newline
abbrev pub behind_line : List ℕ → List ℕ
behind_line [] = []
behind_line (byte ∷ rest) = if is_newline byte then rest else behind_line rest

-- the byte order mark of UTF-8
abbrev pub mark : List ℕ
mark = 239 ∷ 187 ∷ 191 ∷ []

-- a line without a mark at its beginning
abbrev pub without_mark : List ℕ → List ℕ
without_mark line = if starts_with nat_eq line mark then drop 3 line else line

-- a byte that is removed at the end of a line: a space or a carriage return
abbrev pub is_blank : ℕ → Bool
is_blank byte = byte == 32 || byte == 13

-- a byte before a text; a blank before an empty text is removed
abbrev pub put_before : ℕ → List ℕ → List ℕ
put_before byte [] = if is_blank byte then [] else byte ∷ []
put_before byte (next ∷ rest) = byte ∷ next ∷ rest

-- a line without blanks at its end
abbrev pub without_blanks : List ℕ → List ℕ
without_blanks [] = []
without_blanks (byte ∷ rest) = put_before byte (without_blanks rest)

-- the text of a line, without a mark at its beginning and without blanks at its end
abbrev pub text_of : List ℕ → List ℕ
text_of line = without_blanks (without_mark line)

-- a byte at the beginning of the first line, which is created if there is none
abbrev pub put_in_first : ℕ → List (List ℕ) → List (List ℕ)
put_in_first byte [] = (byte ∷ []) ∷ []
put_in_first byte (line ∷ later) = (byte ∷ line) ∷ later

-- the bytes divided at their newlines; the end of the bytes right after a newline is no line
abbrev pub cut_lines : List ℕ → List (List ℕ)
cut_lines [] = []
cut_lines (byte ∷ rest) =
    if is_newline byte then [] ∷ cut_lines rest else put_in_first byte (cut_lines rest)

-- the texts of all lines, in order
abbrev pub lines : List ℕ → List (List ℕ)
lines bytes = map text_of (cut_lines bytes)

-- the bytes contain a newline
abbrev pub has_newline : List ℕ → Bool
has_newline bytes = list_any is_newline bytes

-- the bytes up to the last newline, with it; none if there is no newline
abbrev pub closed : List ℕ → List ℕ
closed [] = []
closed (byte ∷ rest) = if has_newline (byte ∷ rest) then byte ∷ closed rest else []

-- the bytes after the last newline; all if there is no newline
abbrev pub unclosed : List ℕ → List ℕ
unclosed [] = []
unclosed (byte ∷ rest) = if has_newline (byte ∷ rest) then unclosed rest else byte ∷ rest

-- the one line of bytes without a newline, unless there are no bytes
abbrev pub only_line : List ℕ → List (List ℕ)
only_line [] = []
only_line (byte ∷ rest) = text_of (byte ∷ rest) ∷ []
