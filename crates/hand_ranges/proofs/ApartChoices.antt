-- Choices hand by hand: a hand that shares a card with one taken before it leads to no choice.
use Rattle.std.proofs.Common.{◌≡◌, ℕ, ◌+◌, List, [], ◌∷◌, ◌++◌, map, refl, sym, ap, ◌∙◌, append_assoc, append-nil, arith, Bool, true, false, cond, ◌&&◌, length}
use Rattle.std.specs.Prelude.{filter}
use Rattle.std.specs.List.{sum_by, flat_map, list_all}
use Rattle.std.proofs.lemmas.List.Sums.{sum_by-cons, sum_by-append}
use Rattle.std.proofs.lemmas.List.Folds.{list_all-append}
use Rattle.card_sets.specs.Disjoint.{apart, all_apart}
use Rattle.range_lines.specs.declared.spot.Weighted.{Weighted}
use Rattle.range_lines.specs.Choices.{taken_from, hands_in, is_disjoint, choices, walked}

pub sum_same : {X : Type 0} (xs : List X) (f g : X → ℕ) → ((x : X) → f x ≡ g x) → sum_by f xs ≡ sum_by g xs
sum_same [] f g h = refl
sum_same (x ∷ xs) f g h = sum_by-cons f x xs ∙ ap (λ n. n + sum_by f xs) (h x) ∙ ap (λ n. g x + n) (sum_same xs f g h) ∙ sym (sum_by-cons g x xs)

pub sum_map : {X Y : Type 0} (g : X → Y) (f : Y → ℕ) (xs : List X) → sum_by f (map g xs) ≡ sum_by (λ x. f (g x)) xs
sum_map g f [] = refl
sum_map g f (x ∷ xs) = sum_by-cons f (g x) (map g xs) ∙ ap (λ n. f (g x) + n) (sum_map g f xs) ∙ sym (sum_by-cons (λ x. f (g x)) x xs)

pub sum_flat : {X Y : Type 0} (g : X → List Y) (f : Y → ℕ) (xs : List X) → sum_by f (flat_map g xs) ≡ sum_by (λ x. sum_by f (g x)) xs
sum_flat g f [] = refl
sum_flat g f (x ∷ xs) = sum_by-append f (g x) (flat_map g xs) ∙ ap (λ n. sum_by f (g x) + n) (sum_flat g f xs) ∙ sym (sum_by-cons (λ x. sum_by f (g x)) x xs)

-- a sum over those that pass
pub sum_filter : {X : Type 0} (p : X → Bool) (f : X → ℕ) (xs : List X) → sum_by f (filter p xs) ≡ sum_by (λ x. cond (p x) (f x) 0) xs
sum_filter p f [] = refl
sum_filter p f (x ∷ xs) =
    let rest = sum_filter p f xs in
    elim (p x) as (λ b. sum_by f (cond b (x ∷ filter p xs) (filter p xs)) ≡ cond b (f x) 0 + sum_by (λ x. cond (p x) (f x) 0) xs) [
      | true ↦ sum_by-cons f x (filter p xs) ∙ ap (λ n. f x + n) rest
      | false ↦ rest ∙ sym (omega arith)
    ]
    ∙ sym (sum_by-cons (λ x. cond (p x) (f x) 0) x xs)

-- the same with the test at the end
late : List (List Weighted) → List Weighted → (List Weighted → ℕ) → ℕ
late ranges taken number = sum_by (λ rest. cond (is_disjoint (taken ++ rest)) (number (taken ++ rest)) 0) (taken_from ranges)

hands_more : (a b : List Weighted) → hands_in (a ++ b) ≡ hands_in a ++ hands_in b
hands_more [] b = refl
hands_more (w ∷ a) b = ap (λ l. w.hand ∷ l) (hands_more a b)

and_false : (a b : Bool) → b ≡ false → (a && b) ≡ false
and_false true b h = h
and_false false b h = refl

-- what isn't disjoint never is with more
front_apart : (a b : List (List ℕ)) → all_apart a ≡ false → all_apart (a ++ b) ≡ false
front_apart [] b h = absurd (cc h)
front_apart (s ∷ a) b h =
    elim (list_all (apart s) a) as (λ t. list_all (apart s) a ≡ t → (t && all_apart a) ≡ false → (list_all (apart s) (a ++ b) && all_apart (a ++ b)) ≡ false) [
      | true ↦ λ e f. and_false (list_all (apart s) (a ++ b)) (all_apart (a ++ b)) (front_apart a b f)
      | false ↦ λ e f. rw (list_all-append (apart s) a b, e) refl
    ] refl h

pub sum_none : {X : Type 0} (xs : List X) → sum_by (λ x. 0) xs ≡ 0
sum_none [] = refl
sum_none (x ∷ xs) = sum_by-cons (λ x. 0) x xs ∙ omega (arith, sum_none xs)

late_walked : (ranges : List (List Weighted)) (taken : List Weighted) (number : List Weighted → ℕ) → is_disjoint taken ≡ true → late ranges taken number ≡ walked ranges taken number
unfolding late
late_walked [] taken number d = rw (append-nil taken, d) (omega arith)
late_walked (range ∷ ranges) taken number d =
    let F : List Weighted → ℕ = λ rest. cond (is_disjoint (taken ++ rest)) (number (taken ++ rest)) 0 in
    sum_flat (λ first. map (λ rest. first ∷ rest) (taken_from ranges)) F range
    ∙ sum_same range _ _ (λ w. sum_map (λ rest. w ∷ rest) F (taken_from ranges) ∙ one (λ front e. late_walked ranges front number e) w)
  where
    one : ((front : List Weighted) → is_disjoint front ≡ true → late ranges front number ≡ walked ranges front number) → (w : Weighted)
        → sum_by (λ rest. cond (is_disjoint (taken ++ w ∷ rest)) (number (taken ++ w ∷ rest)) 0) (taken_from ranges) ≡ cond (is_disjoint (taken ++ w ∷ [])) (walked ranges (taken ++ w ∷ []) number) 0
    one ih w =
        let front = taken ++ w ∷ [] in
        sum_same (taken_from ranges) _ (λ rest. cond (is_disjoint (front ++ rest)) (number (front ++ rest)) 0) (λ rest. ap (λ l. cond (is_disjoint l) (number l) 0) (sym (append_assoc taken (w ∷ []) rest)))
        ∙ elim (is_disjoint front) as (λ b. is_disjoint front ≡ b → sum_by (λ rest. cond (is_disjoint (front ++ rest)) (number (front ++ rest)) 0) (taken_from ranges) ≡ cond b (walked ranges front number) 0) [
          | true ↦ λ e. ih front e
          | false ↦ λ e.
              sum_same (taken_from ranges) _ (λ rest. 0) (λ rest.
              let none : is_disjoint (front ++ rest) ≡ false = ap (λ l. all_apart l) (hands_more front rest) ∙ front_apart (hands_in front) (hands_in rest) e in
              rw none refl)
              ∙ sum_none (taken_from ranges)
        ] refl

-- The sum over the choices is what the walk adds up.
pub choices_walked : (ranges : List (List Weighted)) (number : List Weighted → ℕ) → sum_by number (choices ranges) ≡ walked ranges [] number
unfolding late
choices_walked ranges number = sum_filter is_disjoint number (taken_from ranges) ∙ late_walked ranges [] number refl

-- how many choices there are
pub length_walked : (ranges : List (List Weighted)) → length (choices ranges) ≡ walked ranges [] (λ choice. 1)
length_walked ranges = ones (choices ranges) ∙ choices_walked ranges (λ choice. 1)
  where
    ones : {X : Type 0} (xs : List X) → length xs ≡ sum_by (λ x. 1) xs
    ones [] = refl
    ones (x ∷ xs) = omega (arith, ones xs, sum_by-cons (λ x. 1) x xs)

-- numbers that are the same for each choice add up to the same
pub walked_same : (ranges : List (List Weighted)) (taken : List Weighted) (f g : List Weighted → ℕ) → ((choice : List Weighted) → f choice ≡ g choice) → walked ranges taken f ≡ walked ranges taken g
walked_same [] taken f g h = h taken
walked_same (range ∷ ranges) taken f g h = sum_same range _ _ (λ w. ap (λ n. cond (is_disjoint (taken ++ w ∷ [])) n 0) (walked_same ranges (taken ++ w ∷ []) f g h))

pub zero_both : (b : Bool) (n : ℕ) → n ≡ 0 → cond b n 0 ≡ 0
zero_both true n h = h
zero_both false n h = refl

pub walked_none : (ranges : List (List Weighted)) (taken : List Weighted) → walked ranges taken (λ choice. 0) ≡ 0
walked_none [] taken = refl
walked_none (range ∷ ranges) taken =
    let more : Weighted → ℕ = λ w. cond (is_disjoint (taken ++ w ∷ [])) (walked ranges (taken ++ w ∷ []) (λ choice. 0)) 0 in
    let none : Weighted → ℕ = λ w. 0 in
    sum_same range more none (λ w. zero_both (is_disjoint (taken ++ w ∷ [])) (walked ranges (taken ++ w ∷ []) (λ choice. 0)) (walked_none ranges (taken ++ w ∷ []))) ∙ sum_none range
