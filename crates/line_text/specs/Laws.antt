-- What holds for the lines of any bytes.
use Rattle.std.specs.Prelude.{◌≡◌, ◌≢◌, ℕ, List, [], ◌∷◌, ◌++◌, All, ◌⊎◌}
use Rattle.line_text.specs.Lines.{lines, closed, unclosed, only_line}

-- no byte is a newline
abbrev pub HasNoNewline : List ℕ → Type 0
HasNoNewline text = All (λ byte. byte ≢ 10) text

-- the last byte, if there is one, is a newline
abbrev pub EndsInNewline : List ℕ → Type 0
EndsInNewline bytes = (bytes ≡ []) ⊎ ((front : List ℕ) × (bytes ≡ front ++ 10 ∷ []))

-- the bytes are a part that ends in a newline and a part without a newline, and the lines of the
-- bytes are the lines of both parts
pub record ClosesLines (bytes : List ℕ) : Type 0 where
  pub ends : EndsInNewline (closed bytes)
  pub parts : closed bytes ++ unclosed bytes ≡ bytes
  pub open_part : HasNoNewline (unclosed bytes)
  pub front : lines bytes ≡ lines (closed bytes) ++ only_line (unclosed bytes)

-- this holds for all bytes
abbrev pub AllCloseLines : Type 0
AllCloseLines = (bytes : List ℕ) → ClosesLines bytes
