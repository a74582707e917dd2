-- A sum over a list by the classes that its members fall into.
use Rattle.std.proofs.Common.{◌≡◌, ℕ, zero, suc, ◌+◌, ◌*◌, ◌<◌, ◌≤◌, ◌==◌, List, [], ◌∷◌, cond, true, false, refl, sym, ap, ◌∙◌, arith, inl, inr}
use Rattle.std.specs.List.{sum_by, count_by}
use Rattle.std.proofs.lemmas.Bool.{cases_eq}
use Rattle.std.proofs.lemmas.List.Sums.{sum_by-cons}
use Rattle.showdown_tally.specs.SetShares.{sum_below}

nothing : (worth : ℕ → ℕ) (n : ℕ) → sum_below (λ c. worth c * 0) n ≡ 0
nothing worth zero = refl
nothing worth (suc n) = let ih : sum_below (λ c. worth c * 0) n ≡ 0 = nothing worth n in omega arith

apart : (a b : ℕ) → (a ≡ b → ⊥) → (a == b) ≡ false
apart a b ne = grind arith

-- one member more in its class
past : (worth f g : ℕ → ℕ) (k n : ℕ) → n ≤ k → ((c : ℕ) → g c ≡ cond (k == c) 1 0 + f c) → sum_below (λ c. worth c * g c) n ≡ sum_below (λ c. worth c * f c) n
past worth f g k zero h e = refl
past worth f g k (suc n) h e =
    let ih : sum_below (λ c. worth c * g c) n ≡ sum_below (λ c. worth c * f c) n = past worth f g k n (omega arith) e in
    let other : g n ≡ f n = e n ∙ rw (apart k n (λ s. omega arith)) (omega arith) in
    omega (arith, ih, ap (λ m. worth n * m) other)

one_more : (worth f g : ℕ → ℕ) (k n : ℕ) → k < n → ((c : ℕ) → g c ≡ cond (k == c) 1 0 + f c) → sum_below (λ c. worth c * g c) n ≡ worth k + sum_below (λ c. worth c * f c) n
one_more worth f g k zero h e = absurd (omega arith)
one_more worth f g k (suc n) h e = elim (cases_eq k n) [
  | inl s ↦
      let before : sum_below (λ c. worth c * g c) n ≡ sum_below (λ c. worth c * f c) n = past worth f g k n (omega arith) e in
      let here : g n ≡ 1 + f n = e n ∙ (let t : (k == n) ≡ true = grind arith in rw t refl) in
      let w : worth k ≡ worth n = ap worth s in
      omega (arith, before, ap (λ m. worth n * m) here, w)
  | inr ne ↦
      let ih : sum_below (λ c. worth c * g c) n ≡ worth k + sum_below (λ c. worth c * f c) n = one_more worth f g k n (omega arith) e in
      let other : g n ≡ f n = e n ∙ rw (apart k n ne) (omega arith) in
      omega (arith, ih, ap (λ m. worth n * m) other)
]

-- what each member is worth by its class can be summed over the classes: as many times as members fall into each
pub by_classes : {X : Type 0} (class : X → ℕ) (worth : ℕ → ℕ) (n : ℕ) (xs : List X) → ((x : X) → class x < n)
    → sum_below (λ c. worth c * count_by (λ x. class x == c) xs) n ≡ sum_by (λ x. worth (class x)) xs
by_classes class worth n [] small = nothing worth n
by_classes class worth n (x ∷ xs) small =
    let ih : sum_below (λ c. worth c * count_by (λ y. class y == c) xs) n ≡ sum_by (λ y. worth (class y)) xs = by_classes class worth n xs small in
    one_more worth (λ c. count_by (λ y. class y == c) xs) (λ c. count_by (λ y. class y == c) (x ∷ xs)) (class x) n (small x) (λ c. sum_by-cons (λ y. cond (class y == c) 1 0) x xs)
    ∙ ap (λ m. worth (class x) + m) ih ∙ sym (sum_by-cons (λ y. worth (class y)) x xs)

-- sums of the same numbers
pub below_same : (f g : ℕ → ℕ) (n : ℕ) → ((c : ℕ) → c < n → f c ≡ g c) → sum_below f n ≡ sum_below g n
below_same f g zero same = refl
below_same f g (suc n) same =
    let ih : sum_below f n ≡ sum_below g n = below_same f g n (λ c l. same c (omega arith)) in
    let here : f n ≡ g n = same n (omega arith) in
    omega arith

pub by_same : {X : Type 0} (f g : X → ℕ) (xs : List X) → ((x : X) → f x ≡ g x) → sum_by f xs ≡ sum_by g xs
by_same f g [] each = refl
by_same f g (x ∷ xs) each = omega (arith, sum_by-cons f x xs, sum_by-cons g x xs, each x, by_same f g xs each)
