-- The numbers of a range, each once.
use Rattle.std.proofs.Common.{◌≡◌, ◌+◌, ◌<◌, ◌≤◌, ℕ, zero, suc, Bool, cond, eqb, refl, sym, ap, ◌∙◌, ⊎_elim, arith}
use Rattle.std.specs.List.{range_with_len}
use Rattle.std.proofs.lemmas.Bool.{cases_eq, cases_lt, lt-ltb, le-ltb, eq-eqb, ne_eqb}
use Rattle.std.proofs.lemmas.List.Sums.{sum_by-cons}
use Rattle.steal_core.specs.Interleavings.{times, once_below}

range_before : (x a n : ℕ) → x < a → times x (range_with_len a n) ≡ 0
range_before x a zero low = refl
range_before x a (suc n) low =
    let ih = range_before x (a + 1) n (omega arith) in
    let no : cond {A = ℕ} (eqb a x) 1 0 ≡ 0 = ap (λ (b : Bool). cond {A = ℕ} b 1 0) (ne_eqb a x (λ e. absurd (omega arith))) in
    omega (arith, sum_by-cons (λ b. cond {A = ℕ} (eqb b x) 1 0) a (range_with_len (a + 1) n))

range_after : (x a n : ℕ) → a + n ≤ x → times x (range_with_len a n) ≡ 0
range_after x a zero high = refl
range_after x a (suc n) high =
    let ih = range_after x (a + 1) n (omega arith) in
    let no : cond {A = ℕ} (eqb a x) 1 0 ≡ 0 = ap (λ (b : Bool). cond {A = ℕ} b 1 0) (ne_eqb a x (λ e. absurd (omega arith))) in
    omega (arith, sum_by-cons (λ b. cond {A = ℕ} (eqb b x) 1 0) a (range_with_len (a + 1) n))

range_inside : (x a n : ℕ) → a ≤ x → x < a + n → times x (range_with_len a n) ≡ 1
range_inside x a zero low high = absurd (omega arith)
range_inside x a (suc n) low high = ⊎_elim
    (λ (e : a ≡ x).
    let yes : cond {A = ℕ} (eqb a x) 1 0 ≡ 1 = ap (λ (b : Bool). cond {A = ℕ} b 1 0) (eq-eqb a x e) in
    let rest = range_before x (a + 1) n (omega arith) in
    omega (arith, sum_by-cons (λ b. cond {A = ℕ} (eqb b x) 1 0) a (range_with_len (a + 1) n)))
    (λ (ne : a ≡ x → ⊥).
    let no : cond {A = ℕ} (eqb a x) 1 0 ≡ 0 = ap (λ (b : Bool). cond {A = ℕ} b 1 0) (ne_eqb a x ne) in
    let above : a < x = ⊎_elim (λ (l : a < x). l) (λ (g : x ≤ a). absurd (ne (omega arith))) (cases_lt a x) in
    let ih = range_inside x (a + 1) n (omega arith) (omega arith) in
    omega (arith, sum_by-cons (λ b. cond {A = ℕ} (eqb b x) 1 0) a (range_with_len (a + 1) n)))
    (cases_eq a x)

pub range_times : (x n : ℕ) → times x (range_with_len 0 n) ≡ once_below n x
range_times x n = ⊎_elim
    (λ (low : x < n). range_inside x 0 n (omega arith) (omega arith) ∙ ap (λ (b : Bool). cond {A = ℕ} b 1 0) (sym (lt-ltb x n low)))
    (λ (high : n ≤ x). range_after x 0 n (omega arith) ∙ ap (λ (b : Bool). cond {A = ℕ} b 1 0) (sym (le-ltb x n high)))
    (cases_lt x n)
