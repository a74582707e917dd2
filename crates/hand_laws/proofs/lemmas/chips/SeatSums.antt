-- Sums over the seats of the table.
use Rattle.std.proofs.Common.{◌≡◌, ℕ, zero, suc, ◌+◌, ◌<◌, ◌≤◌, refl, Bool, true, false, ◌==◌, arith}
use Rattle.std.specs.Prelude.{if◌then◌else◌}
use Rattle.hand_laws.specs.Chips.{sum_from}

-- term by term
pub sum_same : (f g : ℕ → ℕ) (p n : ℕ) → p + n ≤ 11 → ((q : ℕ) → q < 11 → f q ≡ g q) → sum_from f p n ≡ sum_from g p n
sum_same f g p zero l h = refl
sum_same f g p (suc n) l h = let here : f p ≡ g p = h p (omega arith) in let rest : sum_from f (p + 1) n ≡ sum_from g (p + 1) n = sum_same f g (p + 1) n (omega arith) h in rw (here, rest) refl

pub sum_plus : (f g : ℕ → ℕ) (p n : ℕ) → sum_from (λ q. f q + g q) p n ≡ sum_from f p n + sum_from g p n
sum_plus f g p zero = refl
sum_plus f g p (suc n) = let rest : sum_from (λ q. f q + g q) (p + 1) n ≡ sum_from f (p + 1) n + sum_from g (p + 1) n = sum_plus f g (p + 1) n in omega (arith, rest)

-- a term at one seat alone
pub at_seat : ℕ → ℕ → ℕ → ℕ
at_seat s units p = if s == p then units else 0

pub at_seat_is : (s units p : ℕ) → (if s == p then units else 0) ≡ at_seat s units p
unfolding at_seat
at_seat_is s units p = refl

at_other : (s units p : ℕ) → (s == p) ≡ false → at_seat s units p ≡ 0
unfolding at_seat
at_other s units p e = rw e refl

at_same : (s units p : ℕ) → (s == p) ≡ true → at_seat s units p ≡ units
unfolding at_seat
at_same s units p e = rw e refl

sum_past : (s units p n : ℕ) → s < p → sum_from (at_seat s units) p n ≡ 0
sum_past s units p zero l = refl
sum_past s units p (suc n) l =
    let here : at_seat s units p ≡ 0 = at_other s units p (grind arith) in
    let rest : sum_from (at_seat s units) (p + 1) n ≡ 0 = sum_past s units (p + 1) n (omega arith) in
    omega (arith, here, rest)

pub sum_at : (s units p n : ℕ) → p ≤ s → s < p + n → sum_from (at_seat s units) p n ≡ units
sum_at s units p zero l h = absurd (omega arith)
sum_at s units p (suc n) l h = by (s == p) refl (λ far. sum_at s units (p + 1) n far (omega arith))
  where
    by : (b : Bool) → (s == p) ≡ b → (p + 1 ≤ s → sum_from (at_seat s units) (p + 1) n ≡ units) → sum_from (at_seat s units) p (suc n) ≡ units
    by true e ih =
        let same : s ≡ p = grind arith in
        let here : at_seat s units p ≡ units = at_same s units p e in
        let rest : sum_from (at_seat s units) (p + 1) n ≡ 0 = sum_past s units (p + 1) n (omega (arith, same)) in
        omega (arith, here, rest)
    by false e ih =
        let far : p + 1 ≤ s = grind arith in
        let here : at_seat s units p ≡ 0 = at_other s units p e in
        let rest = ih far in
        omega (arith, here, rest)

pub no_sum : (p n : ℕ) → sum_from (λ q. 0) p n ≡ 0
no_sum p zero = refl
no_sum p (suc n) = let rest : sum_from (λ q. 0) (p + 1) n ≡ 0 = no_sum (p + 1) n in omega (arith, rest)
