-- How many seats pass a test: one more or none, and one or two of them at the least or at the most.
use Rattle.std.proofs.Common.{◌≡◌, ℕ, zero, suc, ◌+◌, ◌<◌, ◌≤◌, refl, subst, Bool, true, false, arith, add-one}
use Rattle.std.specs.Prelude.{if◌then◌else◌, nat_le, nat_lt}
use Rattle.std.proofs.lemmas.Bool.Decides.{nat_tests}
use Rattle.betting_replay.specs.Seats.{count_below}

-- one number more that passes, or doesn't
pub count_past : (f : ℕ → Bool) (p k : ℕ) → count_below f p ≡ k → f p ≡ false → count_below f (p + 1) ≡ k
count_past f p k so_far fails = rw (add-one, so_far, fails) (omega arith)

pub count_here : (f : ℕ → Bool) (p k : ℕ) → count_below f p ≡ k → f p ≡ true → count_below f (p + 1) ≡ k + 1
count_here f p k so_far passes =
    let next : count_below f (suc p) ≡ k + 1 = rw (so_far, passes) refl in
    rw add-one next

-- more numbers have as many that pass, or more
count_grows : (f : ℕ → Bool) (m n : ℕ) → m ≤ n → count_below f m ≤ count_below f n
count_grows f m zero within = let none : m ≡ 0 = omega arith in rw none (omega arith)
count_grows f m (suc n) within = by (nat_le m n) refl (λ less. count_grows f m n less)
  where
    by : (b : Bool) → nat_le m n ≡ b → (m ≤ n → count_below f m ≤ count_below f n) → count_below f m ≤ count_below f n + (if f n then 1 else 0)
    by true e rest =
        let less : m ≤ n = grind (arith, nat_tests) in
        let fewer : count_below f m ≤ count_below f n = rest less in
        omega (arith, fewer)
    by false e rest =
        let all : suc n ≡ m = grind (arith, nat_tests) in
        subst (λ k. count_below f k ≤ count_below f n + (if f n then 1 else 0)) all (omega arith)

-- one that passes is among those below a number above it
pub one_there : (f : ℕ → Bool) (p n : ℕ) → f p ≡ true → p < n → nat_lt 0 (count_below f n) ≡ true
one_there f p n passes within =
    let one : count_below f (suc p) ≡ count_below f p + 1 = rw passes refl in
    let more : count_below f (suc p) ≤ count_below f n = count_grows f (suc p) n (omega arith) in
    let some : 0 < count_below f n = omega (arith, one, more) in
    grind (arith, nat_tests)

-- a second one that passes makes two of them or more
second_found : (f : ℕ → Bool) (p n : ℕ) → count_below f p ≡ 1 → f p ≡ true → p < n → 2 ≤ count_below f n
second_found f p n one passes within =
    let two : count_below f (suc p) ≡ 2 = rw (one, passes) refl in
    let more : count_below f (suc p) ≤ count_below f n = count_grows f (suc p) n (omega arith) in
    omega (arith, two, more)

pub not_one : (f : ℕ → Bool) (p n : ℕ) → count_below f p ≡ 1 → f p ≡ true → p < n → nat_le (count_below f n) 1 ≡ false
not_one f p n one passes within = let two : 2 ≤ count_below f n = second_found f p n one passes within in grind (arith, nat_tests)

pub two_there : (f : ℕ → Bool) (p n : ℕ) → count_below f p ≡ 1 → f p ≡ true → p < n → nat_le 2 (count_below f n) ≡ true
two_there f p n one passes within = let two : 2 ≤ count_below f n = second_found f p n one passes within in grind (arith, nat_tests)

-- and with none they are one at the most
pub one_at_most : (f : ℕ → Bool) (one : Bool) (n : ℕ) → count_below f n ≡ (if one then 1 else 0) → nat_le (count_below f n) 1 ≡ true
one_at_most f true n so_far = rw so_far refl
one_at_most f false n so_far = rw so_far refl

pub not_two : (f : ℕ → Bool) (one : Bool) (n : ℕ) → count_below f n ≡ (if one then 1 else 0) → nat_le 2 (count_below f n) ≡ false
not_two f true n so_far = rw so_far refl
not_two f false n so_far = rw so_far refl
