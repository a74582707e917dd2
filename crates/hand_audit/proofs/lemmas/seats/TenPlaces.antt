-- Lists in ten places: one item more, the items of a list of seats, and what stands at a place.
use Rattle.std.proofs.Common.{take, drop, ◌≡◌, map, slice_index_or, ℕ, suc, ◌+◌, ◌-◌, ◌<◌, ◌≤◌, List, [], ◌∷◌, ◌++◌, refl, sym, ap, ◌∙◌, length, set, arith, append_assoc, length-append, length-drop, drop-cons, zero}
use Rattle.std.specs.Prelude.{replicate}
use Rattle.std.proofs.lemmas.List.{set-append_right, map_more, length-map, length-take-le, get_or_append_left}
use Rattle.hand_audit.specs.KnownTables.{ten}

-- one more in the ten places
pub ten_more : {A : Type 0} → (none : A) (xs : List A) (x : A) → length xs < 10 → set (ten none xs) (length xs) x ≡ ten none (xs ++ x ∷ [])
unfolding ten
ten_more none xs x few =
    let left : 10 - length xs ≡ suc (10 - length (xs ++ x ∷ [])) = omega (arith, length-append xs (x ∷ [])) in
    let here : length xs - length xs ≡ 0 = omega arith in
    set-append_right xs (replicate (10 - length xs) none) (length xs) (length xs) x refl (omega arith)
    ∙ ap (λ n. xs ++ set (replicate (10 - length xs) none) n x) here
    ∙ ap (λ n. xs ++ set (replicate n none) 0 x) left
    ∙ sym (append_assoc xs (x ∷ []) (replicate (10 - length (xs ++ x ∷ [])) none))

pub ten_none : {A : Type 0} → (none : A) → replicate 10 none ≡ ten none []
unfolding ten
ten_none none = refl

-- what a list's items have, in ten places, one further
pub fill_next : {A B : Type 0} (none : B) (f : A → B) (xs : List A) (n : ℕ) (d : A) (all : List B) → length xs ≤ 10 → n < length xs → all ≡ ten none (map f (take n xs)) → set all n (f (slice_index_or xs n d)) ≡ ten none (map f (take (n + 1) xs))
fill_next none f xs n d all few l e =
    let short : length (map f (take n xs)) ≡ n = length-map (take n xs) f ∙ length-take-le n xs (omega arith) in
    let x = f (slice_index_or xs n d) in
    let inside : length (map f (take n xs)) < 10 = omega (arith, short, few, l) in
    ap (λ ys. set ys n x) e ∙ ap (λ k. set (ten none (map f (take n xs))) k x) (sym short) ∙ ten_more none (map f (take n xs)) x inside ∙ ap (ten none) (sym (map_more f xs n d l))

-- one seat further in a list
pub record Further (xs : List ℕ) (n seat : ℕ) (rest : List ℕ) : Type 0 where
  pub inside : n < length xs
  pub here : slice_index_or xs n 0 ≡ seat
  pub left : drop (n + 1) xs ≡ rest

pub further : (xs : List ℕ) (n seat : ℕ) (rest : List ℕ) → drop n xs ≡ seat ∷ rest → Further xs n seat rest
further xs n seat rest is =
    let long : length xs - n ≡ suc (length rest) = sym (length-drop n xs) ∙ ap length is in
    let inside : n < length xs = omega (arith, long) in
    let both : slice_index_or xs n 0 ∷ drop (suc n) xs ≡ seat ∷ rest = sym (drop-cons xs n 0 inside) ∙ is in
    let here : slice_index_or xs n 0 ≡ seat = cc in
    let left : drop (suc n) xs ≡ rest = cc in
    let next : n + 1 ≡ suc n = omega arith in
    record { inside = inside; here = here; left = ap (λ k. drop k xs) next ∙ left }

-- what its seats have, in ten places
pub fill_seat : {A : Type 0} (none : A) (f : ℕ → A) (xs : List ℕ) (n seat : ℕ) (rest : List ℕ) (all : List A) → length xs ≤ 10 → drop n xs ≡ seat ∷ rest
    → all ≡ ten none (map f (take n xs)) → set all n (f seat) ≡ ten none (map f (take (n + 1) xs))
fill_seat none f xs n seat rest all few is so_far =
    let at = further xs n seat rest is in
    ap (λ p. set all n (f p)) (sym at.here) ∙ fill_next none f xs n 0 all few at.inside so_far

-- the places of ten
pub in_ten : {A : Type 0} → (none : A) (xs : List A) (i : ℕ) (d : A) → i < length xs → slice_index_or (ten none xs) i d ≡ slice_index_or xs i d
unfolding ten
in_ten none xs i d l = get_or_append_left xs (replicate (10 - length xs) none) d i l

pub in_map : {A : Type 0} → (f : ℕ → A) (xs : List ℕ) (i : ℕ) (d : A) → i < length xs → slice_index_or (map f xs) i d ≡ f (slice_index_or xs i 0)
in_map f [] i d l = absurd (omega arith)
in_map f (x ∷ xs) zero d l = refl
in_map f (x ∷ xs) (suc i) d l = in_map f xs i d (omega (arith, l))
