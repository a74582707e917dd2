-- No text of a line holds a newline, and a plain text is read back.
use Rattle.std.proofs.Common.{◌≡◌, ◌≢◌, ℕ, suc, false, List, [], ◌∷◌, ◌++◌, length, take, drop, map, refl, ap, sym, ◌∙◌, arith, eqb}
use Rattle.std.specs.List.{All}
use Rattle.std.proofs.lemmas.Bool.{cond_both, eqb-false, ne_eqb}
use Rattle.std.proofs.lemmas.List.Elements.{All-nil, All-cons, All-take, All-drop, All-map}
use Rattle.line_text.specs.Laws.{HasNoNewline}
use Rattle.line_text.specs.Lines.{is_newline, cut_lines, put_in_first, put_before, without_blanks, without_mark, text_of, lines}
use Rattle.line_text.specs.Places.{mark_length}
use Rattle.line_text.proofs.CallerLemmas.{without_blanks-take, without_mark-drop}
use Rattle.text_laws.specs.PlainLines.{EndsInNoBlank, TextsHoldNoNewline, PlainTextsReadBack}

-- no newline, cell by cell
no_newline-tail : (x : ℕ) (xs : List ℕ) → HasNoNewline (x ∷ xs) → HasNoNewline xs
no_newline-tail x xs h = λ k d lt. h (suc k) d (omega arith)

-- the text of a line is a part of it
text_of-part : (line : List ℕ) → text_of line ≡ take (length (text_of line)) (drop (mark_length line) line)
text_of-part line =
    sym (without_blanks-take (without_mark line)) ∙ ap (take (length (text_of line))) (without_mark-drop line)

text_of-no_newline : (line : List ℕ) → HasNoNewline line → HasNoNewline (text_of line)
text_of-no_newline line h =
    rw (text_of-part line)
    (All-take (λ byte. byte ≢ 10) _ _ (All-drop (λ byte. byte ≢ 10) (mark_length line) line h))

put_in_first-no_newline : (x : ℕ) (cut : List (List ℕ)) → x ≢ 10 → All HasNoNewline cut → All HasNoNewline (put_in_first x cut)
put_in_first-no_newline x [] ne h =
    All-cons HasNoNewline (x ∷ []) [] (All-cons (λ byte. byte ≢ 10) x [] ne (All-nil (λ byte. byte ≢ 10))) (All-nil HasNoNewline)
put_in_first-no_newline x (line ∷ later) ne h =
    All-cons HasNoNewline (x ∷ line) later
    (All-cons (λ byte. byte ≢ 10) x line ne (h 0 [] (omega arith)))
    (λ k d lt. h (suc k) d (omega arith))

-- the parts between newlines hold none
cut_lines-no_newline : (bytes : List ℕ) → All HasNoNewline (cut_lines bytes)
cut_lines-no_newline [] = All-nil HasNoNewline
cut_lines-no_newline (x ∷ xs) =
    let rest : All HasNoNewline (cut_lines xs) = cut_lines-no_newline xs in
    cond_both (is_newline x) ([] ∷ cut_lines xs) (put_in_first x (cut_lines xs)) (λ cut. All HasNoNewline cut)
    (λ _. All-cons HasNoNewline [] (cut_lines xs) (All-nil (λ byte. byte ≢ 10)) rest)
    (λ e. put_in_first-no_newline x (cut_lines xs) (eqb-false x 10 e) rest)

pub texts_hold_no_newline : TextsHoldNoNewline
texts_hold_no_newline bytes =
    All-map HasNoNewline text_of (cut_lines bytes)
    (λ k d lt. text_of-no_newline _ (cut_lines-no_newline bytes k d lt))

-- a part without a newline is cut off whole
cut_lines-part : (text rest : List ℕ) → HasNoNewline text → cut_lines (text ++ 10 ∷ rest) ≡ text ∷ cut_lines rest
cut_lines-part [] rest h = refl
cut_lines-part (x ∷ xs) rest h =
    let e : is_newline x ≡ false = ne_eqb x 10 (h 0 0 (omega arith)) in
    rw e (ap (put_in_first x) (cut_lines-part xs rest (no_newline-tail x xs h)))

-- a text with no blank at its end has none left out
without_blanks-same : (text : List ℕ) → EndsInNoBlank text → without_blanks text ≡ text
without_blanks-same [] ends = refl
without_blanks-same (x ∷ []) ends =
    let last : (x ≢ 32) × (x ≢ 13) = ends [] x refl in
    let space : eqb x 32 ≡ false = ne_eqb x 32 last.0 in
    let return : eqb x 13 ≡ false = ne_eqb x 13 last.1 in
    rw (space, return)
without_blanks-same (x ∷ y ∷ ys) ends =
    ap (put_before x) (without_blanks-same (y ∷ ys) (λ front last e. ends (x ∷ front) last (ap (λ l. x ∷ l) e)))

pub plain_texts_read_back : PlainTextsReadBack
plain_texts_read_back text rest plain =
    let same : text_of text ≡ text =
    let unmarked : without_mark text ≡ text = rw (plain.unmarked) refl in
    ap without_blanks unmarked ∙ without_blanks-same text plain.ends in
    ap (map text_of) (cut_lines-part text rest plain.one_line) ∙ ap (λ t. t ∷ lines rest) same
