-- The places that `next_line` answers are in order and within the bytes, and the text between them is that of the line.
use Rattle.std.proofs.Common.{◌≡◌, ℕ, ◌+◌, ◌-◌, ◌<◌, ◌≤◌, List, ◌∷◌, ◌++◌, length, take, drop, min, refl, ap, sym, ◌∙◌, arith, length-drop}
use Rattle.std.specs.Prelude.{slice_range}
use Rattle.std.proofs.lemmas.List.{take-append-drop, drop-drop, take_all}
use Rattle.line_text.specs.declared.lines.Line.{Line}
use Rattle.line_text.specs.Lines.{front_line, behind_line, lines, text_of, without_blanks, without_mark}
use Rattle.line_text.specs.Places.{mark_length, newline_length, line_at, IsWithin}
use Rattle.line_text.proofs.LineFacts.{front_line-take, behind_line-drop, newline_end, lines-front}
use Rattle.line_text.proofs.TextFacts.{text_of-take, text_of-le, without_mark-drop}

-- the places by their parts, where the next line begins after the newline or at the end
pub line_at-parts : (bytes : List ℕ) (start marked kept next : ℕ)
    → start ≤ length bytes
    → marked ≡ mark_length (front_line (drop start bytes))
    → kept ≡ length (text_of (front_line (drop start bytes)))
    → next ≡ min (start + length (front_line (drop start bytes)) + 1) (length bytes)
    → (let line : Line = record { first = start + marked; end = start + marked + kept; next = next } in line)
    ≡ line_at bytes start
line_at-parts bytes start marked kept next within m k n =
    let e : next ≡ start + length (front_line (drop start bytes)) + newline_length (drop start bytes) =
    omega (arith, newline_end (drop start bytes), length-drop start bytes) in
    rw (m, k, e) refl

-- the same of a line that was cut out of the bytes
pub line_at-read : (bytes rest line : List ℕ) (start marked kept next : ℕ)
    → start ≤ length bytes
    → rest ≡ drop start bytes
    → line ≡ front_line rest
    → marked ≡ mark_length line
    → kept ≡ length (without_blanks (take (length line - marked) (drop marked line)))
    → next ≡ min (start + length line + 1) (length bytes)
    → (let place : Line = record { first = start + marked; end = start + marked + kept; next = next } in place)
    ≡ line_at bytes start
line_at-read bytes rest line start marked kept next within r l m k n =
    let e : line ≡ front_line (drop start bytes) = l ∙ ap front_line r in
    let behind_mark : take (length line - marked) (drop marked line) ≡ without_mark line =
    take_all (length line - marked) (drop marked line) (omega (arith, length-drop marked line))
    ∙ ap (λ i. drop i line) m ∙ sym (without_mark-drop line) in
    line_at-parts bytes start marked kept next within
    (m ∙ ap mark_length e)
    (k ∙ ap (λ t. length (without_blanks t)) behind_mark ∙ ap (λ t. length (text_of t)) e)
    (n ∙ ap (λ t. min (start + length t + 1) (length bytes)) e)

-- they are in order
pub line_at-within : (bytes : List ℕ) (start : ℕ) → start < length bytes
    → IsWithin start (length bytes) (line_at bytes start)
line_at-within bytes start some =
    let ended : length (front_line (drop start bytes)) + newline_length (drop start bytes)
    ≡ min (length (front_line (drop start bytes)) + 1) (length (drop start bytes)) = newline_end (drop start bytes) in
    let left : length (drop start bytes) ≡ length bytes - start = length-drop start bytes in
    let text : mark_length (front_line (drop start bytes)) + length (text_of (front_line (drop start bytes)))
    ≤ length (front_line (drop start bytes)) = text_of-le (front_line (drop start bytes)) in
    record {
      ordered = omega arith;
      before_next = omega arith;
      inside = omega arith;
      forward = omega arith;
    }

-- the text of the front line stands at its places
slice-text : (bytes : List ℕ) (start : ℕ)
    → slice_range bytes ((line_at bytes start).first) ((line_at bytes start).end)
    ≡ text_of (front_line (drop start bytes))
slice-text bytes start =
    let rest : List ℕ = drop start bytes in
    let line : List ℕ = front_line (drop start bytes) in
    let width : (start + mark_length line + length (text_of line)) - (start + mark_length line) ≡ length (text_of line) = omega arith in
    let whole : line ++ drop (length line) rest ≡ rest =
    ap (λ l. l ++ drop (length line) rest) (sym (front_line-take rest)) ∙ take-append-drop (length line) rest in
    rw (width, ← drop-drop (mark_length line) start bytes)
    (ap (λ l. take (length (text_of line)) (drop (mark_length line) l)) (sym whole)
    ∙ text_of-take line (drop (length line) rest))

-- so the texts from there on begin with it
pub line_at-texts : (bytes : List ℕ) (start : ℕ) → start < length bytes
    → lines (drop start bytes)
    ≡ slice_range bytes ((line_at bytes start).first) ((line_at bytes start).end)
    ∷ lines (drop ((line_at bytes start).next) bytes)
line_at-texts bytes start some =
    let rest : List ℕ = drop start bytes in
    let line : List ℕ = front_line (drop start bytes) in
    let left : 0 < length (drop start bytes) = omega (arith, length-drop start bytes) in
    let sum : start + length line + newline_length rest ≡ start + (length line + newline_length rest) = omega arith in
    let next : drop (start + length line + newline_length rest) bytes ≡ behind_line rest =
    ap (λ n. drop n bytes) sum ∙ sym (drop-drop (length line + newline_length rest) start bytes) ∙ behind_line-drop rest in
    lines-front rest left
    ∙ ap (λ t. t ∷ lines (behind_line rest)) (sym (slice-text bytes start))
    ∙ ap (λ l. slice_range bytes ((line_at bytes start).first) ((line_at bytes start).end) ∷ lines l) (sym next)
