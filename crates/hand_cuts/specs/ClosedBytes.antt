-- The bytes of the closed hands.
use Rattle.std.specs.Prelude.{◌≡◌, ℕ, Bool, false, ◌&&◌, ◌||◌, if◌then◌else◌, List, [], ◌∷◌}
use Rattle.history_text.specs.Headers.{is_header}
use Rattle.line_text.specs.Lines.{front_line, has_newline, is_newline, lines, text_of}
use Rattle.hand_cuts.specs.Units.{hands_from, units_in}
use Rattle.hand_cuts.specs.declared.units.CutKind.TheVariants.{Hands}

-- the bytes begin with a header line and its newline
abbrev pub begins_header : List ℕ → Bool
begins_header bytes = has_newline bytes && is_header (text_of (front_line bytes))

-- the bytes contain a header line with its newline; `given` is whether the bytes begin at the beginning of a line
abbrev pub holds_header : Bool → List ℕ → Bool
holds_header starts [] = false
holds_header starts (byte ∷ rest) = (starts && begins_header (byte ∷ rest)) || holds_header (is_newline byte) rest

-- the bytes before the last header line that has its newline; none if there is no such line
abbrev pub closed_hands : List ℕ → List ℕ
closed_hands [] = []
closed_hands (byte ∷ rest) = if holds_header (is_newline byte) rest then byte ∷ closed_hands rest else []

-- the closed hands of some bytes are the hands of the bytes before the last header line that has its newline
abbrev pub ClosedHandsByBytes : Type 0
ClosedHandsByBytes = (number : ℕ) (bytes : List ℕ) → units_in Hands false number bytes ≡ hands_from number (lines (closed_hands bytes))
