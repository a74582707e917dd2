-- Lists by their places.
use Rattle.std.proofs.Common.{◌≡◌, ℕ, zero, suc, ◌+◌, ◌<◌, List, [], ◌∷◌, ◌++◌, length, map, take, drop, set, get_or, refl, sym, ap, ◌∙◌, arith, Some}
use Rattle.std.specs.Prelude.{slice_get}
use Rattle.std.proofs.Math.Seq.{take-append_seam}

-- what a vector has after as many elements were written through a slice of all
pub written : {X : Type 0} (n : ℕ) (new old : List X) → length new ≡ n → take n (new ++ drop (length new) old) ≡ new
written n new old same = ap (λ k. take k (new ++ drop (length new) old)) (sym same) ∙ take-append_seam new (drop (length new) old)

-- a place that is set, and the others
pub get-other : {X : Type 0} (xs : List X) (i k : ℕ) (v : X) → (k ≡ i → ⊥) → slice_get (set xs i v) k ≡ slice_get xs k
get-other [] i k v ne = refl
get-other (x ∷ xs) zero zero v ne = absurd (ne refl)
get-other (x ∷ xs) zero (suc k) v ne = refl
get-other (x ∷ xs) (suc i) zero v ne = refl
get-other (x ∷ xs) (suc i) (suc k) v ne = get-other xs i k v (λ e. ne (ap suc e))

pub get-here : {X : Type 0} (xs : List X) (i : ℕ) (v : X) → i < length xs → slice_get (set xs i v) i ≡ Some v
get-here [] i v l = absurd (omega arith)
get-here (x ∷ xs) zero v l = refl
get-here (x ∷ xs) (suc i) v l = get-here xs i v (omega arith)

-- one number more
pub map_take : {Y : Type 0} (f : ℕ → Y) (xs : List ℕ) (i d : ℕ) → i < length xs → map f (take (i + 1) xs) ≡ map f (take i xs) ++ f (get_or xs i d) ∷ []
map_take f [] i d h = absurd (omega arith)
map_take f (x ∷ xs) zero d h = refl
map_take f (x ∷ xs) (suc i) d h =
    let up : suc i + 1 ≡ suc (i + 1) = omega arith in
    rw up (ap (λ l. f x ∷ l) (map_take f xs i d (omega arith)))
