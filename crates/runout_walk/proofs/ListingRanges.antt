-- Ranges of listings, and sums over them.
use Rattle.std.proofs.Common.{◌≡◌, ℕ, zero, suc, ◌-◌, ◌≤◌, List, [], ◌∷◌, ◌++◌, length, map, take, drop, refl, sym, ap, ◌∙◌, arith, append-nil}
use Rattle.std.specs.Prelude.{min}
use Rattle.std.specs.List.{slice_range}
use Rattle.std.proofs.lemmas.List.{take-map, drop-map}

pub range-none : {X : Type 0} (lo hi : ℕ) → slice_range {X = X} [] lo hi ≡ []
range-none {X} lo hi = drop_none lo
  where
    take_none : (n : ℕ) → take {A = X} n [] ≡ []
    take_none zero = refl
    take_none (suc n) = refl

    drop_none : (n : ℕ) → take {A = X} (hi - lo) (drop n []) ≡ []
    drop_none zero = take_none (hi - lo)
    drop_none (suc n) = take_none (hi - lo)

-- a range of two lists after one another
pub range-append : {X : Type 0} (xs ys : List X) (lo hi : ℕ) → slice_range (xs ++ ys) lo hi ≡ slice_range xs lo (min hi (length xs)) ++ slice_range ys (lo - length xs) (hi - length xs)
range-append [] ys lo hi =
    let a : lo - 0 ≡ lo = omega arith in
    let b : hi - 0 ≡ hi = omega arith in
    rw (range-none lo (min hi 0), a, b) refl
range-append (x ∷ xs) ys zero zero =
    let a : min 0 (suc (length xs)) ≡ 0 = omega arith in
    let b : 0 - suc (length xs) ≡ 0 = omega arith in
    rw (a, b) refl
range-append (x ∷ xs) ys zero (suc hi) =
    let a : min (suc hi) (suc (length xs)) - 0 ≡ suc (min hi (length xs) - 0) = omega arith in
    let b : suc hi - suc (length xs) ≡ hi - length xs = omega arith in
    let c : 0 - suc (length xs) ≡ 0 - length xs = omega arith in
    let d : suc hi - 0 ≡ suc (hi - 0) = omega arith in
    rw (a, b, c, d) (ap (λ l. x ∷ l) (range-append xs ys zero hi))
range-append (x ∷ xs) ys (suc lo) zero =
    let a : min 0 (suc (length xs)) - suc lo ≡ 0 = omega arith in
    let b : (0 - suc (length xs)) - (suc lo - suc (length xs)) ≡ 0 = omega arith in
    let d : 0 - suc lo ≡ 0 = omega arith in
    rw (a, b, d) refl
range-append (x ∷ xs) ys (suc lo) (suc hi) =
    let a : min (suc hi) (suc (length xs)) - suc lo ≡ min hi (length xs) - lo = omega arith in
    let b : suc hi - suc (length xs) ≡ hi - length xs = omega arith in
    let c : suc lo - suc (length xs) ≡ lo - length xs = omega arith in
    let d : suc hi - suc lo ≡ hi - lo = omega arith in
    rw (a, b, c, d) (range-append xs ys lo hi)

pub range-map : {X Y : Type 0} (f : X → Y) (xs : List X) (lo hi : ℕ) → slice_range (map f xs) lo hi ≡ map f (slice_range xs lo hi)
range-map f xs lo hi = ap (λ l. take (hi - lo) l) (drop-map f lo xs) ∙ take-map f (hi - lo) (drop lo xs)

pub range-empty : {X : Type 0} (xs : List X) (lo hi : ℕ) → hi ≤ lo → slice_range xs lo hi ≡ []
range-empty xs lo hi h = let e : hi - lo ≡ 0 = omega arith in rw e refl

-- a range of two parts: in the first, in the second, in both
pub range_first : {X : Type 0} (all a b : List X) (lo hi : ℕ) → all ≡ a ++ b → hi ≤ length a → slice_range a lo hi ≡ slice_range all lo hi
range_first all a b lo hi e h =
    let m : min hi (length a) ≡ hi = omega arith in
    let none : slice_range b (lo - length a) (hi - length a) ≡ [] = range-empty b (lo - length a) (hi - length a) (omega arith) in
    sym (ap (λ l. slice_range l lo hi) e ∙ range-append a b lo hi ∙ rw (m, none) (append-nil (slice_range a lo hi)))

pub range_second : {X : Type 0} (all a b : List X) (lo hi : ℕ) → all ≡ a ++ b → length a ≤ lo → slice_range b (lo - length a) (hi - length a) ≡ slice_range all lo hi
range_second all a b lo hi e h =
    let none : slice_range a lo (min hi (length a)) ≡ [] = range-empty a lo (min hi (length a)) (omega arith) in
    sym (ap (λ l. slice_range l lo hi) e ∙ range-append a b lo hi ∙ rw none refl)

pub range_both : {X : Type 0} (all a b : List X) (lo hi : ℕ) → all ≡ a ++ b → lo ≤ length a → length a ≤ hi → slice_range a lo (length a) ++ slice_range b 0 (hi - length a) ≡ slice_range all lo hi
range_both all a b lo hi e h k =
    let m : min hi (length a) ≡ length a = omega arith in
    let z : lo - length a ≡ 0 = omega arith in
    sym (ap (λ l. slice_range l lo hi) e ∙ range-append a b lo hi ∙ rw (m, z) refl)

-- and of what each member is made into
pub range_mapped : {X Y : Type 0} (f : X → Y) (all : List Y) (xs : List X) (lo hi : ℕ) → all ≡ map f xs → slice_range all lo hi ≡ map f (slice_range xs lo hi)
range_mapped f all xs lo hi e = ap (λ l. slice_range l lo hi) e ∙ range-map f xs lo hi

pub map-map : {X Y Z : Type 0} (g : Y → Z) (f : X → Y) (xs : List X) → map g (map f xs) ≡ map (λ x. g (f x)) xs
map-map g f [] = refl
map-map g f (x ∷ xs) = ap (λ l. g (f x) ∷ l) (map-map g f xs)

pub map-same : {X Y : Type 0} (f g : X → Y) (xs : List X) → ((x : X) → f x ≡ g x) → map f xs ≡ map g xs
map-same f g [] h = refl
map-same f g (x ∷ xs) h = ap (λ y. y ∷ map f xs) (h x) ∙ ap (λ l. g x ∷ l) (map-same f g xs h)

pub map-itself : {X : Type 0} (f : X → X) (xs : List X) → ((x : X) → f x ≡ x) → map f xs ≡ xs
map-itself f [] h = refl
map-itself f (x ∷ xs) h = ap (λ y. y ∷ map f xs) (h x) ∙ ap (λ l. x ∷ l) (map-itself f xs h)
