-- Falling lists of ranks that pass a test, and the digits of their numbers.
use Rattle.rank_high.specs.ByRanks.{digits_of, falling}
use Rattle.std.proofs.Common.{◌≡◌, ℕ, suc, zero, ◌+◌, ◌*◌, ◌^◌, ◌≤◌, ◌<◌, ◌==◌, List, ◌++◌, ◌∷◌, [], refl, ap, ◌∙◌, sym, arith, Bool, true, false, cond, length, inl, inr, map, subst}
use Rattle.std.proofs.lemmas.Bool.{cases_eq, cases_lt}
use mathlib.Core.Bool.{true≢false}
use Rattle.rank_high.specs.High.{ranks_below}
use Rattle.rank_high.proofs.ValueOrder.{AreDigits, digits_from-lt, first_less}

-- each rank passes, and each is below the one before
abbrev pub Falls : (ℕ → Bool) → ℕ → List ℕ → Type 0
Falls p n [] = Unit {0}
Falls p n (r ∷ rs) = (r < n) × (p r ≡ true) × Falls p r rs

pub Falls-wider : (p q : ℕ → Bool) (n m : ℕ) (rs : List ℕ) → ((r : ℕ) → r < m → p r ≡ true → q r ≡ true) → n ≤ m → Falls p n rs → Falls q m rs
Falls-wider p q n m [] h l f = tt
Falls-wider p q n m (r ∷ rs) h l f = (omega arith, h r (omega arith) f.1, Falls-wider p q r r rs (λ s i. h s (omega arith)) (omega arith) f.2)

pub Falls-falling : (p : ℕ → Bool) (n : ℕ) → Falls p n (falling p n)
Falls-falling p zero = tt
Falls-falling p (suc n) = one (Falls-falling p n) (p n) refl
  where
    one : Falls p n (falling p n) → (b : Bool) → p n ≡ b → Falls p (suc n) (cond b (n ∷ []) [] ++ falling p n)
    one rest true e = (omega arith, e, rest)
    one rest false e = Falls-wider p p n (suc n) (falling p n) (λ r i t. t) (omega arith) rest

AreDigits-falls : (p : ℕ → Bool) (n : ℕ) (rs : List ℕ) → n ≤ 13 → Falls p n rs → AreDigits (map (λ r. r + 2) rs)
AreDigits-falls p n [] h f = tt
AreDigits-falls p n (r ∷ rs) h f = (omega arith, omega arith, AreDigits-falls p r rs (omega arith) f.2)

pub digits_of-lt : (p : ℕ → Bool) (n k : ℕ) (rs : List ℕ) → n ≤ 13 → Falls p n rs → digits_of k rs < 16 ^ k
digits_of-lt p n k rs h f = digits_from-lt k (map (λ r. r + 2) rs) (AreDigits-falls p n rs h f)

pub no_digits : (k : ℕ) → digits_of k [] ≡ 0
no_digits zero = refl
no_digits (suc k) = refl

-- no falling list of ranks that pass has a greater number than that of all of them
pub falling-most : (p : ℕ → Bool) (n k : ℕ) (rs : List ℕ) → n ≤ 13 → Falls p n rs → digits_of k rs ≤ digits_of k (falling p n)
falling-most p zero k [] h f = omega arith
falling-most p zero k (r ∷ rs) h f = absurd (omega arith)
falling-most p (suc n) k rs h f = one (λ k rs f. falling-most p n k rs (omega arith) f) (p n) refl k rs f
  where
    one : ((k : ℕ) (rs : List ℕ) → Falls p n rs → digits_of k rs ≤ digits_of k (falling p n)) → (b : Bool) → p n ≡ b → (k : ℕ) (rs : List ℕ) → Falls p (suc n) rs → digits_of k rs ≤ digits_of k (cond b (n ∷ []) [] ++ falling p n)
    one ih true e k [] f = let z : digits_of k [] ≡ 0 = no_digits k in omega arith
    one ih true e zero (r ∷ rs) f = omega arith
    one ih true e (suc k) (r ∷ rs) f = elim (cases_lt r n) [
      | inl l ↦
          let low : digits_of k rs < 16 ^ k = digits_of-lt p r k rs (omega arith) f.2 in
          let less = first_less (16 ^ k) (r + 2) (n + 2) (digits_of k rs) (digits_of k (falling p n)) (omega arith) low in
          omega arith
      | inr ge ↦
          let same : r ≡ n = omega arith in
          let rest : digits_of k rs ≤ digits_of k (falling p n) = ih k rs (Falls-wider p p r n rs (λ s i t. t) (omega arith) f.2) in
          let first : (r + 2) * 16 ^ k ≡ (n + 2) * 16 ^ k = ap (λ x. (x + 2) * 16 ^ k) same in
          omega arith
    ]
    one ih false e k [] f = ih k [] tt
    one ih false e k (r ∷ rs) f = elim (cases_lt r n) [
      | inl l ↦ ih k (r ∷ rs) (l, f.1, f.2)
      | inr ge ↦
          let same : r ≡ n = omega arith in
          absurd (true≢false (sym f.1 ∙ ap p same ∙ e))
    ]

-- a first rank that is no greater, and where it is the same a rest with no greater number
pub lead : (k a x rest best : ℕ) → a ≤ x → rest < 16 ^ k → (a ≡ x → rest ≤ best) → (a + 2) * 16 ^ k + rest ≤ (x + 2) * 16 ^ k + best
lead k a x rest best h low same = elim (cases_lt a x) [
  | inl l ↦ let less = first_less (16 ^ k) (a + 2) (x + 2) rest best (omega arith) low in omega arith
  | inr ge ↦
      let e : a ≡ x = omega arith in
      let r : rest ≤ best = same e in
      let first : (a + 2) * 16 ^ k ≡ (x + 2) * 16 ^ k = ap (λ y. (y + 2) * 16 ^ k) e in
      omega arith
]

-- the ranks that are counted so many times, as a falling list
pub ranks_below-falling : (f : ℕ → ℕ) (size n : ℕ) → ranks_below f size n ≡ falling (λ r. f r == size) n
ranks_below-falling f size zero = refl
ranks_below-falling f size (suc n) = ap (λ rest. cond (f n == size) (n ∷ []) [] ++ rest) (ranks_below-falling f size n)

pub falling-same : (p q : ℕ → Bool) (n : ℕ) → ((r : ℕ) → r < n → p r ≡ q r) → falling p n ≡ falling q n
falling-same p q zero h = refl
falling-same p q (suc n) h =
    let e : p n ≡ q n = h n (omega arith) in
    let r : falling p n ≡ falling q n = falling-same p q n (λ k l. h k (omega arith)) in
    rw (e, r) refl

-- a rank that passes shows that there is one
pub falling-some : (p : ℕ → Bool) (n r : ℕ) → r < n → p r ≡ true → falling p n ≡ [] → ⊥
falling-some p zero r h e none = absurd (omega arith)
falling-some p (suc n) r h e none = elim (cases_eq r n) [
  | inl same ↦
      let t : p n ≡ true = ap p (sym same) ∙ e in
      let P : Bool → Type 0 = λ b. cond b (n ∷ []) [] ++ falling p n ≡ [] in
      let c : n ∷ falling p n ≡ [] = subst P t none in
      absurd (omega (arith, ap length c))
  | inr ne ↦
      let ih : falling p n ≡ [] = back (p n) none in
      falling-some p n r (omega arith) e ih
]
  where
    back : (b : Bool) → cond b (n ∷ []) [] ++ falling p n ≡ [] → falling p n ≡ []
    back true e = absurd (omega (arith, ap length e))
    back false e = e

-- all ranks that pass are at most the first
pub falling-first : (p : ℕ → Bool) (n x : ℕ) (more : List ℕ) → falling p n ≡ x ∷ more → (r : ℕ) → r < n → p r ≡ true → r ≤ x
falling-first p zero x more e r h t = absurd (omega (arith, ap length e))
falling-first p (suc n) x more e r h t = one (λ e i. falling-first p n x more e r i t) (p n) refl e
  where
    one : (falling p n ≡ x ∷ more → r < n → r ≤ x) → (b : Bool) → p n ≡ b → cond b (n ∷ []) [] ++ falling p n ≡ x ∷ more → r ≤ x
    one ih true g e = let same : n ≡ x = cc in omega arith
    one ih false g e = elim (cases_eq r n) [
      | inl same ↦ absurd (true≢false (sym t ∙ ap p same ∙ g))
      | inr ne ↦ ih e (omega arith)
    ]

-- where one rank alone passes, each that passes is that one
pub falling-only : (p : ℕ → Bool) (n x : ℕ) → falling p n ≡ x ∷ [] → (r : ℕ) → r < n → p r ≡ true → r ≡ x
falling-only p zero x e r h t = absurd (omega (arith, ap length e))
falling-only p (suc n) x e r h t = one (λ e i. falling-only p n x e r i t) (p n) refl e
  where
    one : (falling p n ≡ x ∷ [] → r < n → r ≡ x) → (b : Bool) → p n ≡ b → cond b (n ∷ []) [] ++ falling p n ≡ x ∷ [] → r ≡ x
    one ih true g e = elim (cases_eq r n) [
      | inl same ↦ let top : n ≡ x = cc in same ∙ top
      | inr ne ↦ let empty : falling p n ≡ [] = cc in absurd (falling-some p n r (omega arith) t empty)
    ]
    one ih false g e = elim (cases_eq r n) [
      | inl same ↦ absurd (true≢false (sym t ∙ ap p same ∙ g))
      | inr ne ↦ ih e (omega arith)
    ]
