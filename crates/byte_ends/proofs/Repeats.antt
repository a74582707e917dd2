-- The bytes of a line, again and again.
use Rattle.std.proofs.Common.{◌≡◌, ℕ, zero, suc, ◌+◌, ◌-◌, ◌≤◌, ◌%◌, List, [], ◌∷◌, ◌++◌, length, take, drop, slice_index_or, refl, ap, ◌∙◌, arith}
use Rattle.byte_ends.specs.Repeat.{repeated}

pub repeated-length : (line : List ℕ) (number count : ℕ) → length (repeated line number count) ≡ count
repeated-length line number zero = refl
repeated-length line number (suc count) = ap suc (repeated-length line (suc number) count)

pub repeated-take : (line : List ℕ) (number n count : ℕ) → n ≤ count → take n (repeated line number count) ≡ repeated line number n
repeated-take line number zero count l = refl
repeated-take line number (suc n) zero l = absurd (omega arith)
repeated-take line number (suc n) (suc count) l =
    ap (λ xs. slice_index_or line (number % 64) 0 ∷ xs) (repeated-take line (suc number) n count (omega arith))

pub repeated-drop : (line : List ℕ) (number n count : ℕ) → n ≤ count → drop n (repeated line number count) ≡ repeated line (number + n) (count - n)
repeated-drop line number zero count l =
    let same : number ≡ number + 0 = omega arith in
    let all : count ≡ count - 0 = omega arith in
    ap (λ k. repeated line k count) same ∙ ap (repeated line (number + 0)) all
repeated-drop line number (suc n) zero l = absurd (omega arith)
repeated-drop line number (suc n) (suc count) l =
    let from : suc number + n ≡ number + suc n = omega arith in
    let left : count - n ≡ suc count - suc n = omega arith in
    repeated-drop line (suc number) n count (omega arith) ∙ ap (λ k. repeated line k (count - n)) from ∙ ap (repeated line (number + suc n)) left

-- one byte more
pub repeated-more : (line : List ℕ) (number n : ℕ) → repeated line number (n + 1) ≡ repeated line number n ++ slice_index_or line ((number + n) % 64) 0 ∷ []
repeated-more line number zero = ap (λ k. slice_index_or line (k % 64) 0 ∷ []) (let same : number ≡ number + 0 = omega arith in same)
repeated-more line number (suc n) =
    let up : suc n + 1 ≡ suc (n + 1) = omega arith in
    let from : suc number + n ≡ number + suc n = omega arith in
    ap (repeated line number) up
    ∙ ap (λ xs. slice_index_or line (number % 64) 0 ∷ xs) (repeated-more line (suc number) n ∙ ap (λ k. repeated line (suc number) n ++ slice_index_or line (k % 64) 0 ∷ []) from)
