-- Lists by their places: what was put, ranges, and how many from the front pass a test.
use Rattle.std.proofs.Common.{◌≡◌, ℕ, zero, suc, ◌+◌, ◌-◌, List, [], ◌∷◌, ◌++◌, length, map, take, drop, set, refl, ap, ◌∙◌, arith, Bool, cond, Some, subst}
use Rattle.std.specs.Prelude.{slice_get}
use Rattle.std.specs.List.{count_by, slice_range}
use Rattle.std.proofs.lemmas.List.{drop-map, take-map}
use Rattle.std.proofs.lemmas.List.Sums.{sum_by-append, sum_by-cons}

-- a place that is set, and the others
pub get-same : {X : Type 0} (xs : List X) (i : ℕ) (v r : X) → slice_get (set xs i v) i ≡ Some r → r ≡ v
get-same [] i v r e = cc
get-same (x ∷ xs) zero v r e = cc
get-same (x ∷ xs) (suc i) v r e = get-same xs i v r e

pub get-other : {X : Type 0} (xs : List X) (i k : ℕ) (v : X) → (k ≡ i → ⊥) → slice_get (set xs i v) k ≡ slice_get xs k
get-other [] i k v ne = refl
get-other (x ∷ xs) zero zero v ne = absurd (ne refl)
get-other (x ∷ xs) zero (suc k) v ne = refl
get-other (x ∷ xs) (suc i) zero v ne = refl
get-other (x ∷ xs) (suc i) (suc k) v ne = get-other xs i k v (λ e. ne (ap suc e))

-- what was put at the end stands there
pub last_there : {X : Type 0} (xs : List X) (x y : X) → slice_get (xs ++ x ∷ []) (length xs) ≡ Some y → y ≡ x
last_there [] x y e = cc
last_there (z ∷ xs) x y e = last_there xs x y e

-- what holds of all holds with one more at the end of which it holds
pub all_push : {X : Type 0} (P : X → Type 0) (xs : List X) (v : X) → ((i : ℕ) (x : X) → slice_get xs i ≡ Some x → P x) → P v → (i : ℕ) (x : X) → slice_get (xs ++ v ∷ []) i ≡ Some x → P x
all_push P [] v all is zero x at = let same : v ≡ x = cc in subst P same is
all_push P [] v all is (suc i) x at = cc
all_push P (y ∷ xs) v all is zero x at = all zero x at
all_push P (y ∷ xs) v all is (suc i) x at = all_push P xs v (λ k z e. all (suc k) z e) is i x at

-- a range of none, and of what each member is made into
take_of_none : {X : Type 0} (n : ℕ) → take {A = X} n [] ≡ []
take_of_none zero = refl
take_of_none (suc n) = refl

pub range-none : {X : Type 0} (lo hi : ℕ) → slice_range {X = X} [] lo hi ≡ []
range-none zero hi = take_of_none (hi - zero)
range-none (suc lo) hi = take_of_none (hi - suc lo)

pub range-map : {X Y : Type 0} (f : X → Y) (xs : List X) (lo hi : ℕ) → slice_range (map f xs) lo hi ≡ map f (slice_range xs lo hi)
range-map f xs lo hi = ap (λ l. take (hi - lo) l) (drop-map f lo xs) ∙ take-map f (hi - lo) (drop lo xs)

-- how many of one pass
pub count_one : {X : Type 0} (test : X → Bool) (x : X) → count_by test (x ∷ []) ≡ cond (test x) 1 0
count_one test x = let c : count_by test (x ∷ []) ≡ cond (test x) 1 0 + count_by test [] = sum_by-cons (λ y. cond (test y) 1 0) x [] in omega (arith, c)

-- one more from the front
pub take_next : {X : Type 0} (xs : List X) (i : ℕ) (x : X) → slice_get xs i ≡ Some x → take (suc i) xs ≡ take i xs ++ x ∷ []
take_next [] i x e = cc
take_next (y ∷ xs) zero x e = let same : y ≡ x = cc in ap (λ v. v ∷ []) same
take_next (y ∷ xs) (suc i) x e = ap (λ l. y ∷ l) (take_next xs i x e)

pub count_next : {X : Type 0} (test : X → Bool) (xs : List X) (i : ℕ) (x : X) → slice_get xs i ≡ Some x → count_by test (take (suc i) xs) ≡ count_by test (take i xs) + count_by test (x ∷ [])
count_next test xs i x e = ap (count_by test) (take_next xs i x e) ∙ sum_by-append (λ y. cond (test y) 1 0) (take i xs) (x ∷ [])
