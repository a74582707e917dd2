-- Where the front line ends, and that it is the first of the lines.
use Rattle.std.proofs.Common.{◌≡◌, ℕ, zero, suc, ◌+◌, ◌<◌, true, false, ◌||◌, cond, List, [], ◌∷◌, length, take, drop, min, map, refl, ap, sym, arith, slice_index, Option, None, Some, unwrap_or}
use Rattle.std.proofs.lemmas.Bool.{cond_both}
use Rattle.line_text.specs.Lines.{is_newline, front_line, behind_line, has_newline, cut_lines, put_in_first, lines, text_of}
use Rattle.memchr.specs.Find.{IsFirstByte, is_byte}
use Rattle.line_text.specs.Places.{newline_length}

-- the front line is a front of the bytes
pub front_line-take : (xs : List ℕ) → take (length (front_line xs)) xs ≡ front_line xs
front_line-take [] = refl
front_line-take (x ∷ xs) =
    cond_both (is_newline x) [] (x ∷ front_line xs) (λ f. take (length f) (x ∷ xs) ≡ f) (λ _. refl)
    (λ _. ap (λ f. x ∷ f) (front_line-take xs))

-- what stands after it follows its newline
pub behind_line-drop : (xs : List ℕ) → drop (length (front_line xs) + newline_length xs) xs ≡ behind_line xs
behind_line-drop [] = refl
behind_line-drop (x ∷ xs) =
    let step : suc (length (front_line xs)) + newline_length xs ≡ suc (length (front_line xs) + newline_length xs) = omega arith in
    elim (is_newline x) as (λ v.
    drop (length (cond v [] (x ∷ front_line xs)) + cond (v || has_newline xs) 1 0) (x ∷ xs)
    ≡ cond v xs (behind_line xs)) [
      | true ↦ refl
      | false ↦ rw step (behind_line-drop xs)
    ]

-- its newline, where there is one, is within the bytes
pub newline_end : (xs : List ℕ) → length (front_line xs) + newline_length xs ≡ min (length (front_line xs) + 1) (length xs)
newline_end [] = refl
newline_end (x ∷ xs) =
    let ih : length (front_line xs) + newline_length xs ≡ min (length (front_line xs) + 1) (length xs) = newline_end xs in
    elim (is_newline x) as (λ v.
    length (cond v [] (x ∷ front_line xs)) + cond (v || has_newline xs) 1 0
    ≡ min (length (cond v [] (x ∷ front_line xs)) + 1) (suc (length xs))) [
      | true ↦ omega arith
      | false ↦ omega (arith, ih)
    ]

-- the front line ends at the first newline
pub front_line-first : (xs : List ℕ) (k : ℕ) → k < length xs
    → ((j : ℕ) → j < k → is_newline (slice_index xs j) ≡ true → ⊥)
    → is_newline (slice_index xs k) ≡ true → length (front_line xs) ≡ k
front_line-first [] k h before here = absurd (omega arith)
front_line-first (x ∷ xs) zero h before here = rw here
front_line-first (x ∷ xs) (suc k) h before here =
    cond_both (is_newline x) [] (x ∷ front_line xs) (λ f. length f ≡ suc k)
    (λ e. absurd (before 0 (omega arith) e))
    (λ _. ap suc (front_line-first xs k (omega arith) (λ j l. before (suc j) (omega arith)) here))

-- and without a newline it is all
pub front_line-all : (xs : List ℕ) → ((j : ℕ) → j < length xs → is_newline (slice_index xs j) ≡ true → ⊥)
    → length (front_line xs) ≡ length xs
front_line-all [] none = refl
front_line-all (x ∷ xs) none =
    cond_both (is_newline x) [] (x ∷ front_line xs) (λ f. length f ≡ suc (length xs))
    (λ e. absurd (none 0 (omega arith) e))
    (λ _. ap suc (front_line-all xs (λ j l. none (suc j) (omega arith))))

-- a search for the newline finds the front line's end
pub front_line-found : (xs : List ℕ) (found : Option ℕ) → IsFirstByte (is_byte 10) xs found
    → unwrap_or found (length xs) ≡ length (front_line xs)
front_line-found xs None h = sym (front_line-all xs (λ j l. h j (omega arith) l))
front_line-found xs (Some k) h =
    sym (front_line-first xs k h.0.high (λ j l. h.0.before j (omega arith) l) h.1)

-- it is empty where a newline is the first byte, or where there is none
pub front_line-newline : (xs rest : List ℕ) (byte : ℕ) → xs ≡ byte ∷ rest → byte ≡ 10 → 0 ≡ length (front_line xs)
front_line-newline xs rest byte whole newline = rw (whole, newline) refl

pub front_line-none : (xs : List ℕ) → length xs ≡ 0 → 0 ≡ length (front_line xs)
front_line-none [] none = refl
front_line-none (x ∷ xs) none = absurd (omega arith)

-- the front line is cut off first
pub cut_lines-front : (x : ℕ) (xs : List ℕ)
    → cut_lines (x ∷ xs) ≡ front_line (x ∷ xs) ∷ cut_lines (behind_line (x ∷ xs))
cut_lines-front x [] =
    elim (is_newline x) as (λ v.
    cond v ([] ∷ []) ((x ∷ []) ∷ []) ≡ cond v [] (x ∷ []) ∷ cut_lines (cond v [] [])) [
      | true ↦ refl
      | false ↦ refl
    ]
cut_lines-front x (y ∷ ys) =
    let rest : cut_lines (y ∷ ys) ≡ front_line (y ∷ ys) ∷ cut_lines (behind_line (y ∷ ys)) = cut_lines-front y ys in
    elim (is_newline x) as (λ v.
    cond v ([] ∷ cut_lines (y ∷ ys)) (put_in_first x (cut_lines (y ∷ ys)))
    ≡ cond v [] (x ∷ front_line (y ∷ ys))
    ∷ cut_lines (cond v (y ∷ ys) (behind_line (y ∷ ys)))) [
      | true ↦ refl
      | false ↦ ap (put_in_first x) rest
    ]

-- so the text of the front line comes first
pub lines-front : (xs : List ℕ) → 0 < length xs → lines xs ≡ text_of (front_line xs) ∷ lines (behind_line xs)
lines-front [] some = absurd (omega arith)
lines-front (x ∷ xs) some = ap (map text_of) (cut_lines-front x xs)
