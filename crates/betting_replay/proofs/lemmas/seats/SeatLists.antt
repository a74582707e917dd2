-- What each seat has, as a list by seat number.
use Rattle.std.proofs.Common.{◌≡◌, ℕ, zero, suc, ◌+◌, ◌<◌, ◌≤◌, ◌∷◌, refl, ap, ◌∙◌, true, false, ◌==◌, map, arith}
use Rattle.std.specs.Prelude.{slice_index_or, slice_set, if◌then◌else◌}
use Rattle.betting_replay.specs.Seats.{places_from, by_seat}

at_from : {A : Type 0} (f : ℕ → A) (a n k : ℕ) (d : A) → k < n → slice_index_or (places_from f a n) k d ≡ f (a + k)
at_from f a zero k d h = absurd (omega arith)
at_from f a (suc n) zero d h = let e : a ≡ a + 0 = omega arith in ap f e
at_from f a (suc n) (suc k) d h = let e : (a + 1) + k ≡ a + suc k = omega arith in at_from f (a + 1) n k d (omega arith) ∙ ap f e

pub at_by_seat : {A : Type 0} (f : ℕ → A) (p : ℕ) (d : A) → p < 11 → slice_index_or (by_seat f) p d ≡ f p
unfolding by_seat
at_by_seat f p d h = let e : 0 + p ≡ p = omega arith in at_from f 0 11 p d h ∙ ap f e

map_from : {A B : Type 0} (k : A → B) (f : ℕ → A) (a n : ℕ) → map k (places_from f a n) ≡ places_from (λ p. k (f p)) a n
map_from k f a zero = refl
map_from k f a (suc n) = ap (λ xs. k (f a) ∷ xs) (map_from k f (a + 1) n)

pub map_by_seat : {A B : Type 0} (k : A → B) (f : ℕ → A) → map k (by_seat f) ≡ by_seat (λ p. k (f p))
unfolding by_seat
map_by_seat k f = map_from k f 0 11

same_from : {A : Type 0} (f g : ℕ → A) (a n : ℕ) → ((p : ℕ) → a ≤ p → p < a + n → f p ≡ g p) → places_from f a n ≡ places_from g a n
same_from f g a zero h = refl
same_from f g a (suc n) h =
    let e : f a ≡ g a = h a (omega arith) (omega arith) in
    let r : places_from f (a + 1) n ≡ places_from g (a + 1) n = same_from f g (a + 1) n (λ p l m. h p (omega arith) (omega arith)) in
    rw (e, r) refl

pub same_by_seat : {A : Type 0} (f g : ℕ → A) → ((p : ℕ) → p < 11 → f p ≡ g p) → by_seat f ≡ by_seat g
unfolding by_seat
same_by_seat f g h = same_from f g 0 11 (λ p l m. h p (omega arith))

-- what one seat has is set
abbrev pub with_at : {A : Type 0} → ℕ → A → (ℕ → A) → ℕ → A
with_at s x f p = if s == p then x else f p

set_from : {A : Type 0} (f : ℕ → A) (x : A) (a n k : ℕ) → k < n → places_from (with_at (a + k) x f) a n ≡ slice_set (places_from f a n) k x
set_from f x a zero k h = absurd (omega arith)
set_from f x a (suc n) zero h =
    let here : ((a + 0) == a) ≡ true = grind arith in
    let rest : places_from (with_at (a + 0) x f) (a + 1) n ≡ places_from f (a + 1) n = same_from (with_at (a + 0) x f) f (a + 1) n (λ p l m. let no : ((a + 0) == p) ≡ false = grind arith in rw no refl) in
    rw (here, rest) refl
set_from f x a (suc n) (suc k) h =
    let other : ((a + suc k) == a) ≡ false = grind arith in
    let e : a + suc k ≡ (a + 1) + k = omega arith in
    let rest : places_from (with_at (a + suc k) x f) (a + 1) n ≡ slice_set (places_from f (a + 1) n) k x = ap (λ s. places_from (with_at s x f) (a + 1) n) e ∙ set_from f x (a + 1) n k (omega arith) in
    rw (other, rest) refl

pub set_by_seat : {A : Type 0} (f : ℕ → A) (x : A) (s : ℕ) → s < 11 → by_seat (with_at s x f) ≡ slice_set (by_seat f) s x
unfolding by_seat
set_by_seat f x s h = let e : s ≡ 0 + s = omega arith in ap (λ t. places_from (with_at t x f) 0 11) e ∙ set_from f x 0 11 s h
