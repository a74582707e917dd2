-- Choices with the next card, and then those without it.
use Rattle.std.proofs.Common.{◌≡◌, ℕ, zero, suc, ◌+◌, ◌-◌, ◌*◌, ◌≤◌, List, [], ◌∷◌, ◌++◌, refl, ap, ◌∙◌, sym, arith, length, length-append, map, append_assoc, None, Some, drop, take, ◌<◌}
use Rattle.std.specs.List.{flat_map}
use Rattle.std.specs.Prelude.{slice_get}
use Rattle.std.proofs.lemmas.List.{map-append}
use Rattle.std.proofs.Math.Nat.{mul-le-mul}
use Rattle.card_sets.specs.Cards.{union}
use Rattle.card_sets.specs.Choose.{choose}

-- a list with no first has nothing
pub nothing : (cards : List ℕ) → slice_get cards 0 ≡ None → cards ≡ []
nothing [] h = refl
nothing (c ∷ cards) h = cc

pub none_chosen : (missing : ℕ) (rest : List ℕ) → (missing ≡ 0 → ⊥) → rest ≡ [] → choose missing rest ≡ []
none_chosen zero rest some e = absurd (some refl)
none_chosen (suc missing) rest some e = ap (λ l. choose (suc missing) l) e

-- the sets that so many of the rest make with what is given
abbrev pub sets : List ℕ → List ℕ → ℕ → List ℕ → List (List ℕ)
sets with taken missing rest = map (λ more. union with (taken ++ more)) (choose missing rest)

front : (with taken : List ℕ) (card : ℕ) (ls : List (List ℕ)) → map (λ more. union with (taken ++ more)) (map (λ rest. card ∷ rest) ls) ≡ map (λ more. union with ((taken ++ card ∷ []) ++ more)) ls
front with taken card [] = refl
front with taken card (l ∷ ls) =
    ap (λ t. union with t ∷ map (λ more. union with (taken ++ more)) (map (λ rest. card ∷ rest) ls)) (sym (append_assoc taken (card ∷ []) l))
    ∙ ap (λ ms. union with ((taken ++ card ∷ []) ++ l) ∷ ms) (front with taken card ls)

pub sets-step : (with taken rest others : List ℕ) (card missing : ℕ) → (missing ≡ 0 → ⊥) → rest ≡ card ∷ others
    → sets with taken missing rest ≡ sets with (taken ++ card ∷ []) (missing - 1) others ++ sets with taken missing others
sets-step with taken rest others card zero some e = absurd (some refl)
sets-step with taken rest others card (suc k) some e =
    let less : suc k - 1 ≡ k = omega arith in
    let whole : sets with taken (suc k) (card ∷ others) ≡ sets with (taken ++ card ∷ []) k others ++ sets with taken (suc k) others =
    map-append (λ more. union with (taken ++ more)) (map (λ rest. card ∷ rest) (choose k others)) (choose (suc k) others) ∙ ap (λ ls. ls ++ sets with taken (suc k) others) (front with taken card (choose k others)) in
    ap (λ cards. sets with taken (suc k) cards) e ∙ whole ∙ ap (λ n. sets with (taken ++ card ∷ []) n others ++ sets with taken (suc k) others) (sym less)

length-front : (card : ℕ) (ls : List (List ℕ)) → length (map (λ rest. card ∷ rest) ls) ≡ length ls
length-front card [] = refl
length-front card (l ∷ ls) = ap suc (length-front card ls)

pub length-sets : (with taken : List ℕ) (ls : List (List ℕ)) → length (map (λ more. union with (taken ++ more)) ls) ≡ length ls
length-sets with taken [] = refl
length-sets with taken (l ∷ ls) = ap suc (length-sets with taken ls)

pub length-step : (rest others : List ℕ) (card missing : ℕ) → (missing ≡ 0 → ⊥) → rest ≡ card ∷ others → length (choose missing rest) ≡ length (choose (missing - 1) others) + length (choose missing others)
length-step rest others card zero some e = absurd (some refl)
length-step rest others card (suc k) some e =
    let less : suc k - 1 ≡ k = omega arith in
    rw less (ap (λ cards. length (choose (suc k) cards)) e ∙ length-append (map (λ rest. card ∷ rest) (choose k others)) (choose (suc k) others) ∙ ap (λ n. n + length (choose (suc k) others)) (length-front card (choose k others)))

-- the sets that so many of the rest make with what is taken and each of some threes
abbrev pub pairs : List ℕ → List (List ℕ) → ℕ → List ℕ → List (List ℕ)
pairs taken threes missing rest = flat_map (λ more. map (λ three. union (taken ++ more) three) threes) (choose missing rest)

flat-append : (f : List ℕ → List (List ℕ)) (ls ms : List (List ℕ)) → flat_map f (ls ++ ms) ≡ flat_map f ls ++ flat_map f ms
flat-append f [] ms = refl
flat-append f (l ∷ ls) ms = ap (λ rest. f l ++ rest) (flat-append f ls ms) ∙ sym (append_assoc (f l) (flat_map f ls) (flat_map f ms))

flat-front : (taken : List ℕ) (threes : List (List ℕ)) (card : ℕ) (ls : List (List ℕ)) → flat_map (λ more. map (λ three. union (taken ++ more) three) threes) (map (λ rest. card ∷ rest) ls) ≡ flat_map (λ more. map (λ three. union ((taken ++ card ∷ []) ++ more) three) threes) ls
flat-front taken threes card [] = refl
flat-front taken threes card (l ∷ ls) =
    ap (λ t. map (λ three. union t three) threes ++ flat_map (λ more. map (λ three. union (taken ++ more) three) threes) (map (λ rest. card ∷ rest) ls)) (sym (append_assoc taken (card ∷ []) l))
    ∙ ap (λ rest. map (λ three. union ((taken ++ card ∷ []) ++ l) three) threes ++ rest) (flat-front taken threes card ls)

pub pairs-step : (taken : List ℕ) (threes : List (List ℕ)) (rest others : List ℕ) (card missing : ℕ) → (missing ≡ 0 → ⊥) → rest ≡ card ∷ others
    → pairs taken threes missing rest ≡ pairs (taken ++ card ∷ []) threes (missing - 1) others ++ pairs taken threes missing others
pairs-step taken threes rest others card zero some e = absurd (some refl)
pairs-step taken threes rest others card (suc k) some e =
    let less : suc k - 1 ≡ k = omega arith in
    let whole : pairs taken threes (suc k) (card ∷ others) ≡ pairs (taken ++ card ∷ []) threes k others ++ pairs taken threes (suc k) others =
    flat-append (λ more. map (λ three. union (taken ++ more) three) threes) (map (λ rest. card ∷ rest) (choose k others)) (choose (suc k) others) ∙ ap (λ ls. ls ++ pairs taken threes (suc k) others) (flat-front taken threes card (choose k others)) in
    ap (λ cards. pairs taken threes (suc k) cards) e ∙ whole ∙ ap (λ n. pairs (taken ++ card ∷ []) threes n others ++ pairs taken threes (suc k) others) (sym less)

length-union : (with : List ℕ) (ls : List (List ℕ)) → length (map (λ three. union with three) ls) ≡ length ls
length-union with [] = refl
length-union with (l ∷ ls) = ap suc (length-union with ls)

pub length-pairs : (taken : List ℕ) (threes : List (List ℕ)) (ls : List (List ℕ)) → length (flat_map (λ more. map (λ three. union (taken ++ more) three) threes) ls) ≡ length ls * length threes
length-pairs taken threes [] = omega arith
length-pairs taken threes (l ∷ ls) =
    omega (arith, length-append (map (λ three. union (taken ++ l) three) threes) (flat_map (λ more. map (λ three. union (taken ++ more) three) threes) ls), length-union (taken ++ l) threes, length-pairs taken threes ls)

-- how many ways there are to choose two of four and three of five, at the most
pub six : (own : List ℕ) → length own ≤ 4 → length (choose 2 own) ≤ 6
six [] h = omega arith
six (a ∷ []) h = omega arith
six (a ∷ b ∷ []) h = omega arith
six (a ∷ b ∷ c ∷ []) h = omega arith
six (a ∷ b ∷ c ∷ d ∷ []) h = omega arith
six (a ∷ b ∷ c ∷ d ∷ e ∷ rest) h = absurd (omega arith)

pub ten : (board : List ℕ) → length board ≤ 5 → length (choose 3 board) ≤ 10
ten [] h = omega arith
ten (a ∷ []) h = omega arith
ten (a ∷ b ∷ []) h = omega arith
ten (a ∷ b ∷ c ∷ []) h = omega arith
ten (a ∷ b ∷ c ∷ d ∷ []) h = omega arith
ten (a ∷ b ∷ c ∷ d ∷ e ∷ []) h = omega arith
ten (a ∷ b ∷ c ∷ d ∷ e ∷ f ∷ rest) h = absurd (omega arith)

pub at_most_sixty : (a b : ℕ) → a ≤ 6 → b ≤ 10 → a * b ≤ 60
at_most_sixty a b h k = mul-le-mul h k

-- the place that comes next in a list
pub drop-next : (xs : List (List ℕ)) (n : ℕ) (x : List ℕ) → slice_get xs n ≡ Some x → (drop n xs ≡ x ∷ drop (suc n) xs) × (n < length xs)
drop-next [] n x e = absurd (differ x (sym e))
  where
    differ : (x : List ℕ) → Some x ≡ None → ⊥
    differ x e = cc
drop-next (y ∷ ys) zero x e = (let h : y ≡ x = cc in ap (λ k. k ∷ ys) h, omega arith)
drop-next (y ∷ ys) (suc n) x e = let rest = drop-next ys n x e in (rest.0, omega (arith, rest.1))

pub drop-end : (xs : List (List ℕ)) (n : ℕ) → slice_get xs n ≡ None → drop n xs ≡ []
drop-end [] zero e = refl
drop-end [] (suc n) e = refl
drop-end (y ∷ ys) zero e = cc
drop-end (y ∷ ys) (suc n) e = drop-end ys n e

-- the members of a list up to a place, and the next
pub take-next : (xs : List (List ℕ)) (n : ℕ) (x : List ℕ) → slice_get xs n ≡ Some x → (take (suc n) xs ≡ take n xs ++ x ∷ []) × (n < length xs)
take-next [] n x e = absurd (differ x (sym e))
  where
    differ : (x : List ℕ) → Some x ≡ None → ⊥
    differ x e = cc
take-next (y ∷ ys) zero x e = (let h : y ≡ x = cc in ap (λ k. k ∷ []) h, omega arith)
take-next (y ∷ ys) (suc n) x e = let rest = take-next ys n x e in (ap (λ l. y ∷ l) rest.0, omega (arith, rest.1))
