-- The lines of any bytes: what no text of them contains, and which texts are read back from a line
-- unchanged.
use Rattle.std.specs.Prelude.{◌≡◌, ◌≢◌, ℕ, false, nat_eq, List, [], ◌∷◌, ◌++◌, All}
use Rattle.std.specs.List.{starts_with}
use Rattle.line_text.specs.Laws.{HasNoNewline}
use Rattle.line_text.specs.Lines.{lines, mark}

-- the last byte, if there is one, is neither a space nor a carriage return
abbrev pub EndsInNoBlank : List ℕ → Type 0
EndsInNoBlank text =
    (front : List ℕ) (last : ℕ) → text ≡ front ++ last ∷ [] → (last ≢ 32) × (last ≢ 13)

-- a text that can be on a line unchanged
pub record IsPlain (text : List ℕ) : Type 0 where
  pub one_line : HasNoNewline text
  pub unmarked : starts_with nat_eq text mark ≡ false
  pub ends : EndsInNoBlank text

-- no text of a line contains a newline
abbrev pub TextsHoldNoNewline : Type 0
TextsHoldNoNewline = (bytes : List ℕ) → All HasNoNewline (lines bytes)

-- a text that can be on a line, with a newline after it, is read back unchanged
abbrev pub PlainTextsReadBack : Type 0
PlainTextsReadBack =
    (text rest : List ℕ) → IsPlain text → lines (text ++ 10 ∷ rest) ≡ text ∷ lines rest
