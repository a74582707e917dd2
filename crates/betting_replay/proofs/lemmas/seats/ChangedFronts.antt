-- A list whose first items were changed, each in the same way: how far a loop over the seats has come.
use Rattle.std.proofs.Common.{◌≡◌, ℕ, zero, suc, ◌+◌, ◌<◌, List, [], ◌∷◌, refl, ap, length, get_or, set, map, arith}

abbrev pub map_first : {A : Type 0} → (A → A) → ℕ → List A → List A
map_first f zero xs = xs
map_first f (suc n) [] = []
map_first f (suc n) (x ∷ xs) = f x ∷ map_first f n xs

next : {A : Type 0} (f : A → A) (xs : List A) (i : ℕ) (d : A) → i < length xs → set (map_first f i xs) i (f (get_or (map_first f i xs) i d)) ≡ map_first f (suc i) xs
next f [] i d h = absurd (omega arith)
next f (x ∷ xs) zero d h = refl
next f (x ∷ xs) (suc i) d h = ap (λ ys. f x ∷ ys) (next f xs i d (omega arith))

pub map_first-next : {A : Type 0} (f : A → A) (xs ys : List A) (i : ℕ) (d : A) → ys ≡ map_first f i xs → i < length xs → set ys i (f (get_or ys i d)) ≡ map_first f (i + 1) xs
map_first-next f xs ys i d is h =
    let up : i + 1 ≡ suc i = omega arith in
    rw (is, up) (next f xs i d h)

pub map_first-all : {A : Type 0} (f : A → A) (xs : List A) → map_first f (length xs) xs ≡ map f xs
map_first-all f [] = refl
map_first-all f (x ∷ xs) = ap (λ ys. f x ∷ ys) (map_first-all f xs)
