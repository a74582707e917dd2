-- Where the tables of three cards stand.
use Rattle.std.proofs.Common.{◌≡◌, ℕ, zero, suc, ◌+◌, ◌-◌, ◌<◌, ◌≤◌, refl, ap, ◌∙◌, arith, inl, inr}
use Rattle.std.proofs.lemmas.Bool.{cases_eq}
use Rattle.draw_runouts.specs.Worth.{plane_base}

pub base_first : plane_base 0 ≡ 0
unfolding plane_base
base_first = refl

-- the next table begins after the rows that this one uses
pub base_next : (n : ℕ) → plane_base (n + 1) ≡ plane_base n + (50 - n)
unfolding plane_base
base_next n = let up : n + 1 ≡ suc n = omega arith in ap plane_base up

base_last : plane_base 51 ≡ 1275
unfolding plane_base
base_last = refl

base_grows : (n m : ℕ) → plane_base n ≤ plane_base (n + m)
base_grows n zero = let z : n + 0 ≡ n = omega arith in rw z (omega arith)
base_grows n (suc m) =
    let up : n + suc m ≡ (n + m) + 1 = omega arith in
    let ih : plane_base n ≤ plane_base (n + m) = base_grows n m in
    rw up (omega (arith, base_next (n + m), ih))

pub base_small : (n : ℕ) → n < 52 → plane_base n ≤ 1275
base_small n l =
    let e : n + (51 - n) ≡ 51 = omega arith in
    omega (arith, base_grows n (51 - n), ap plane_base e, base_last)

-- the rows of a table stand before those of a later one
pub base_before : (n m : ℕ) → n < m → m < 52 → plane_base n + 51 < plane_base m + (m + 1)
base_before n zero l h = absurd (omega arith)
base_before n (suc m) l h =
    let up : suc m ≡ m + 1 = omega arith in
    let next : plane_base (suc m) ≡ plane_base m + (50 - m) = ap plane_base up ∙ base_next m in
    elim (cases_eq n m) [
      | inl same ↦ (let e : plane_base n ≡ plane_base m = ap plane_base same in omega (arith, next, e))
      | inr ne ↦ (let ih : plane_base n + 51 < plane_base m + (m + 1) = base_before n m (omega arith) (omega arith) in omega (arith, next, ih))
    ]
