-- Where the text of a line stands in it: after the mark, and before the blanks at the end.
use Rattle.std.proofs.Common.{◌≡◌, ℕ, ◌+◌, ◌-◌, ◌<◌, ◌≤◌, Bool, true, false, ◌&&◌, cond, List, [], ◌∷◌, ◌++◌, length, take, drop, refl, ap, sym, ◌∙◌, arith, length-drop, length-take, nat_eq, get_or}
use Rattle.std.proofs.lemmas.Bool.{cond_both}
use Rattle.std.proofs.lemmas.List.{take-append-le, drop-append-le, take_all, take_more}
use Rattle.std.specs.List.{starts_with}
use Rattle.line_text.specs.Lines.{is_blank, put_before, without_blanks, without_mark, mark, text_of}
use Rattle.line_text.specs.Places.{mark_length}

put_before-take : (x : ℕ) (text xs : List ℕ) → take (length text) xs ≡ text
    → take (length (put_before x text)) (x ∷ xs) ≡ put_before x text
put_before-take x [] xs h =
    cond_both (is_blank x) [] (x ∷ []) (λ t. take (length t) (x ∷ xs) ≡ t) (λ _. refl) (λ _. ap (λ t. x ∷ t) h)
put_before-take x (y ∷ ys) xs h = ap (λ t. x ∷ t) h

-- what is left without the blanks at the end is a front of the line
pub without_blanks-take : (xs : List ℕ) → take (length (without_blanks xs)) xs ≡ without_blanks xs
without_blanks-take [] = refl
without_blanks-take (x ∷ xs) = put_before-take x (without_blanks xs) xs (without_blanks-take xs)

-- a blank at the end is left out
pub without_blanks-blank : (xs : List ℕ) (b : ℕ) → is_blank b ≡ true → without_blanks (xs ++ b ∷ []) ≡ without_blanks xs
without_blanks-blank [] b h = rw h
without_blanks-blank (x ∷ xs) b h = ap (put_before x) (without_blanks-blank xs b h)

-- nothing is left out where another byte stands at the end
pub without_blanks-other : (xs : List ℕ) (b : ℕ) → is_blank b ≡ false → without_blanks (xs ++ b ∷ []) ≡ xs ++ b ∷ []
without_blanks-other [] b h = rw h
without_blanks-other (x ∷ []) b h = ap (put_before x) (without_blanks-other [] b h)
without_blanks-other (x ∷ y ∷ ys) b h = ap (put_before x) (without_blanks-other (y ∷ ys) b h)

-- the last byte of a front of the line
take-last : (line : List ℕ) (n : ℕ) → 0 < n → n ≤ length line
    → take n line ≡ take (n - 1) line ++ get_or line (n - 1) 0 ∷ []
take-last line n some within =
    let e : n ≡ n - 1 + 1 = omega arith in
    ap (λ k. take k line) e ∙ take_more line (n - 1) 0 (omega arith)

-- a front that ends in a blank says what the front before it says
pub without_blanks-take_blank : (line : List ℕ) (n : ℕ) → 0 < n → n ≤ length line
    → is_blank (get_or line (n - 1) 0) ≡ true
    → without_blanks (take (n - 1) line) ≡ without_blanks (take n line)
without_blanks-take_blank line n some within blank =
    sym (ap without_blanks (take-last line n some within)
    ∙ without_blanks-blank (take (n - 1) line) (get_or line (n - 1) 0) blank)

-- and one that ends in another byte says all of itself
pub length-without_blanks-take_other : (line : List ℕ) (n : ℕ) → 0 < n → n ≤ length line
    → is_blank (get_or line (n - 1) 0) ≡ false
    → n ≡ length (without_blanks (take n line))
length-without_blanks-take_other line n some within other =
    let all : without_blanks (take n line) ≡ take n line =
    ap without_blanks (take-last line n some within)
    ∙ without_blanks-other (take (n - 1) line) (get_or line (n - 1) 0) other
    ∙ sym (take-last line n some within) in
    omega (arith, ap length all, length-take n line)

pub without_blanks-le : (xs : List ℕ) → length (without_blanks xs) ≤ length xs
without_blanks-le xs =
    omega (arith, ap length (without_blanks-take xs), length-take (length (without_blanks xs)) xs)

-- a test that ends in `false`
fails : (a : Bool) → (a && false) ≡ true → ⊥
fails true h = cc
fails false h = cc

fails_twice : (a b : Bool) → (a && (b && false)) ≡ true → ⊥
fails_twice true b h = fails b h
fails_twice false b h = cc

-- the mark is within the line
pub mark_length-le : (line : List ℕ) → mark_length line ≤ length line
mark_length-le [] = omega arith
mark_length-le (a ∷ []) =
    cond_both (starts_with nat_eq (a ∷ []) mark) 3 0 (λ n. n ≤ 1)
    (λ e. absurd (fails (nat_eq 239 a) e)) (λ _. omega arith)
mark_length-le (a ∷ b ∷ []) =
    cond_both (starts_with nat_eq (a ∷ b ∷ []) mark) 3 0 (λ n. n ≤ 2)
    (λ e. absurd (fails_twice (nat_eq 239 a) (nat_eq 187 b) e)) (λ _. omega arith)
mark_length-le (a ∷ b ∷ c ∷ rest) =
    cond_both (starts_with nat_eq (a ∷ b ∷ c ∷ rest) mark) 3 0 (λ n. n ≤ length (a ∷ b ∷ c ∷ rest))
    (λ _. omega arith) (λ _. omega arith)

pub without_mark-drop : (line : List ℕ) → without_mark line ≡ drop (mark_length line) line
without_mark-drop line =
    elim (starts_with nat_eq line mark) as (λ v. cond v (drop 3 line) line ≡ drop (cond v 3 0) line) [
      | true ↦ refl
      | false ↦ refl
    ]

-- the text of a line before other bytes stands after the mark
pub text_of-take : (line more : List ℕ)
    → take (length (text_of line)) (drop (mark_length line) (line ++ more)) ≡ text_of line
text_of-take line more =
    let n : mark_length line ≤ length line = mark_length-le line in
    let whole : drop (mark_length line) (line ++ more) ≡ without_mark line ++ more =
    drop-append-le (mark_length line) line more n ∙ ap (λ l. l ++ more) (sym (without_mark-drop line)) in
    let fits : length (text_of line) ≤ length (without_mark line) = without_blanks-le (without_mark line) in
    ap (take (length (text_of line))) whole
    ∙ take-append-le (length (text_of line)) (without_mark line) more fits
    ∙ without_blanks-take (without_mark line)

-- the mark and the text are within the line
pub text_of-le : (line : List ℕ) → mark_length line + length (text_of line) ≤ length line
text_of-le line =
    let n : mark_length line ≤ length line = mark_length-le line in
    omega (arith, without_blanks-le (without_mark line), ap length (without_mark-drop line), length-drop (mark_length line) line)

-- what is cut out of a line after its mark and before its blanks is its text
pub text_of-cut : (line text : List ℕ) (marked kept : ℕ)
    → marked ≡ mark_length line
    → text ≡ take (length line - marked) (drop marked line)
    → kept ≡ length (without_blanks text)
    → take kept text ≡ text_of line
text_of-cut line text marked kept m t k =
    let behind_mark : text ≡ without_mark line =
    t ∙ take_all (length line - marked) (drop marked line) (omega (arith, length-drop marked line))
    ∙ ap (λ i. drop i line) m ∙ sym (without_mark-drop line) in
    ap (λ n. take n text) k ∙ without_blanks-take text ∙ ap without_blanks behind_mark
