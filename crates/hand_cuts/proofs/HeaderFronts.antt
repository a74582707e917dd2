-- A line that begins neither with the first letter of a header nor with a byte order mark is no header line.
use Rattle.std.proofs.Common.{◌≡◌, ℕ, ◌==◌, ◌||◌, Bool, true, false, List, [], ◌∷◌, length, refl, ap, ◌∙◌, arith}
use Rattle.std.proofs.lemmas.Bool.{cond_both}
use Rattle.std.proofs.lemmas.Bool.Decides.{nat_tests}
use Rattle.history_text.specs.Texts.{behind}
use Rattle.history_text.specs.Headers.{is_header, title}
use Rattle.line_text.specs.Lines.{is_blank, put_before, text_of, without_blanks, without_mark}

both_false : (a b : Bool) → (a || b) ≡ false → (a ≡ false) × (b ≡ false)
both_false true b none = cc
both_false false b none = (refl, none)

turned : (byte letter : ℕ) → (byte == letter) ≡ false → (letter == byte) ≡ false
turned byte letter other = grind (arith, nat_tests)

no_text : is_header [] ≡ false
unfolding is_header title behind
no_text = refl

no_title : (byte : ℕ) (rest : List ℕ) → (80 == byte) ≡ false → is_header (byte ∷ rest) ≡ false
unfolding is_header title behind
no_title byte rest other = rw other refl

no_front : (byte : ℕ) (rest : List ℕ) → (80 == byte) ≡ false → is_header (put_before byte rest) ≡ false
no_front byte [] other = cond_both (is_blank byte) [] (byte ∷ []) (λ text. is_header text ≡ false) (λ _. no_text) (λ _. no_title byte [] other)
no_front byte (next ∷ rest) other = no_title byte (next ∷ rest) other

no_mark : (byte : ℕ) (rest : List ℕ) → (239 == byte) ≡ false → without_mark (byte ∷ rest) ≡ byte ∷ rest
no_mark byte rest other = rw other refl

pub no_line : (line : List ℕ) → length line ≡ 0 → is_header (text_of line) ≡ false
no_line [] none = no_text
no_line (byte ∷ rest) none = absurd (omega arith)

pub no_header : (byte : ℕ) (rest : List ℕ) → (byte == 80 || byte == 239) ≡ false → is_header (text_of (byte ∷ rest)) ≡ false
no_header byte rest none =
    let other = both_false (byte == 80) (byte == 239) none in
    ap (λ line. is_header (without_blanks line)) (no_mark byte rest (turned byte 239 other.1))
    ∙ no_front byte (without_blanks rest) (turned byte 80 other.0)
