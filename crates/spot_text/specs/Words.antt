-- The words of a line.
use Rattle.std.specs.Prelude.{ℕ, Bool, ◌==◌, ◌||◌, List, length, nat_lt, filter}
use Rattle.std.specs.List.{slice_split}
use Rattle.spot_text.specs.declared.words.Words.{Words}

-- a space or a tab
abbrev pub is_gap : ℕ → Bool
is_gap byte = (byte == 32) || (byte == 9)

-- the words of a line: the pieces between its spaces and tabs that aren't empty
unfoldable pub words : List ℕ → List (List ℕ)
words line = filter (λ piece. nat_lt 0 (length piece)) (slice_split is_gap line)

-- whether a line has no word
abbrev pub is_blank : List ℕ → Bool
is_blank line = length (words line) == 0

-- the words that are still to be read
abbrev pub words_left : Words → List (List ℕ)
words_left reader = words reader.rest.now
