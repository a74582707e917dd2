-- The choices of so many members of a list: how many there are at the edges, that each is a part, and the greatest number of all.
use Rattle.std.proofs.Common.{◌≡◌, ℕ, suc, zero, ◌+◌, ◌≤◌, ◌<◌, List, ◌++◌, ◌∷◌, [], refl, ap, ◌∙◌, sym, arith, length, inl, inr, map, max, append_assoc, subst, Some}
use Rattle.std.specs.Prelude.{slice_get}
use Rattle.card_sets.specs.Cards.{IsCardSet, IsRising, RisingFrom, with_card, without_card}
use Rattle.card_sets.specs.Bits.{first_rest}
use Rattle.card_sets.specs.Rising.{RisingFrom-lower, rising_front, with_card-push}
use Rattle.card_sets.specs.Choose.{choose}
use Rattle.std.proofs.lemmas.List.{map-append}
use Rattle.card_sets.proofs.PartLemmas.{IsPart, none_part}

-- nothing can be chosen from too few
pub choose-short : (k : ℕ) (xs : List ℕ) → length xs < k → choose k xs ≡ []
choose-short zero xs h = absurd (omega arith)
choose-short (suc k) [] h = refl
choose-short (suc k) (x ∷ xs) h =
    let a : choose k xs ≡ [] = choose-short k xs (omega arith) in
    let b : choose (suc k) xs ≡ [] = choose-short (suc k) xs (omega arith) in
    rw (a, b) refl

-- as many can be chosen as there are
pub choose-some : (k : ℕ) (xs : List ℕ) → k ≤ length xs → (l : List ℕ) × (ls : List (List ℕ)) × (choose k xs ≡ l ∷ ls)
choose-some zero xs h = ([], [], refl)
choose-some (suc k) [] h = absurd (omega arith)
choose-some (suc k) (x ∷ xs) h =
    let some = choose-some k xs (omega arith) in
    (x ∷ some.0, map (λ rest. x ∷ rest) some.1 ++ choose (suc k) xs, ap (λ ls. map (λ rest. x ∷ rest) ls ++ choose (suc k) xs) some.2)

-- of all there are one choice is made
pub choose-all : (xs : List ℕ) → choose (length xs) xs ≡ xs ∷ []
choose-all [] = refl
choose-all (x ∷ xs) =
    let rest : choose (length xs) xs ≡ xs ∷ [] = choose-all xs in
    let short : choose (suc (length xs)) xs ≡ [] = choose-short (suc (length xs)) xs (omega arith) in
    rw (rest, short) refl

-- a rising list stays so without one of its cards
rising_without : (low : ℕ) (taken : List ℕ) (x : ℕ) (rest : List ℕ) → RisingFrom low (taken ++ x ∷ rest) → RisingFrom low (taken ++ rest)
rising_without low [] x rest r = RisingFrom-lower (x + 1) low rest (omega arith) r.2
rising_without low (y ∷ taken) x rest r = (r.0, r.1, rising_without (y + 1) taken x rest r.2)

-- what is left of a set without its first card, and what is taken with it
pub record FirstTaken (taken rest : List ℕ) (card : ℕ) : Type 0 where
  pub first : rest ≡ card ∷ without_card rest card
  pub more : with_card taken card ≡ taken ++ card ∷ []
  pub above : IsRising (with_card taken card ++ without_card rest card)
  pub left_out : IsRising (taken ++ without_card rest card)

pub first_taken : (taken rest : List ℕ) (card : ℕ) → IsRising (taken ++ rest) → IsCardSet rest → slice_get rest 0 ≡ Some card → FirstTaken taken rest card
first_taken taken rest card r set is =
    let first : rest ≡ card ∷ without_card rest card = first_rest rest card set is in
    let P : List ℕ → Type 0 = λ cards. IsRising (taken ++ cards) in
    let risen : IsRising (taken ++ card ∷ without_card rest card) = subst P first r in
    let more : with_card taken card ≡ taken ++ card ∷ [] = with_card-push taken card (rising_front 0 taken card (without_card rest card) risen) in
    let Q : List ℕ → Type 0 = λ cards. IsRising cards in
    record {
      first = first;
      more = more;
      above = subst Q (sym (append_assoc taken (card ∷ []) (without_card rest card)) ∙ ap (λ front. front ++ without_card rest card) (sym more)) risen;
      left_out = rising_without 0 taken card (without_card rest card) risen;
    }

-- the greatest of some numbers
abbrev pub greatest : List ℕ → ℕ
greatest [] = 0
greatest (x ∷ xs) = max x (greatest xs)

pub greatest-append : (xs ys : List ℕ) → greatest (xs ++ ys) ≡ max (greatest xs) (greatest ys)
greatest-append [] ys = omega arith
greatest-append (x ∷ xs) ys = let ih : greatest (xs ++ ys) ≡ max (greatest xs) (greatest ys) = greatest-append xs ys in omega arith

pub map_front : (f : List ℕ → ℕ) (x : ℕ) (ls : List (List ℕ)) → map f (map (λ rest. x ∷ rest) ls) ≡ map (λ rest. f (x ∷ rest)) ls
map_front f x [] = refl
map_front f x (l ∷ ls) = ap (λ ns. f (x ∷ l) ∷ ns) (map_front f x ls)

-- the choices with the first member, and those without it
pub greatest_step : (f : List ℕ → ℕ) (k x : ℕ) (xs : List ℕ)
    → greatest (map f (choose (suc k) (x ∷ xs))) ≡ max (greatest (map (λ rest. f (x ∷ rest)) (choose k xs))) (greatest (map f (choose (suc k) xs)))
greatest_step f k x xs =
    ap greatest (map-append f (map (λ rest. x ∷ rest) (choose k xs)) (choose (suc k) xs))
    ∙ greatest-append (map f (map (λ rest. x ∷ rest) (choose k xs))) (map f (choose (suc k) xs))
    ∙ ap (λ ns. max (greatest ns) (greatest (map f (choose (suc k) xs)))) (map_front f x (choose k xs))

-- no choice has a greater number than the bound of all
pub greatest_most : (k : ℕ) (xs : List ℕ) (f : List ℕ → ℕ) (most : ℕ) → ((part : List ℕ) → length part ≡ k → IsPart part xs → f part ≤ most) → greatest (map f (choose k xs)) ≤ most
greatest_most zero xs f most h = let one : f [] ≤ most = h [] refl (none_part xs) in omega arith
greatest_most (suc k) [] f most h = omega arith
greatest_most (suc k) (x ∷ xs) f most h =
    let with : greatest (map (λ rest. f (x ∷ rest)) (choose k xs)) ≤ most =
    greatest_most k xs (λ rest. f (x ∷ rest)) most (λ part e p. h (x ∷ part) (ap suc e) (inr (part, refl, p))) in
    let without : greatest (map f (choose (suc k) xs)) ≤ most = greatest_most (suc k) xs f most (λ part e p. h part e (inl p)) in
    omega (arith, greatest_step f k x xs)

-- each choice has at most the greatest number
pub greatest_least : (k : ℕ) (xs : List ℕ) (f : List ℕ → ℕ) (part : List ℕ) → length part ≡ k → IsPart part xs → f part ≤ greatest (map f (choose k xs))
greatest_least zero xs f [] e p = omega arith
greatest_least zero xs f (y ∷ part) e p = absurd (omega arith)
greatest_least (suc k) [] f part e p = absurd (omega (arith, ap length p))
greatest_least (suc k) (x ∷ xs) f part e p = elim p [
  | inl without ↦
      let ih : f part ≤ greatest (map f (choose (suc k) xs)) = greatest_least (suc k) xs f part e without in
      omega (arith, greatest_step f k x xs)
  | inr with ↦
      let shorter : length with.0 ≡ k = omega (arith, ap length with.1) in
      let ih : f (x ∷ with.0) ≤ greatest (map (λ rest. f (x ∷ rest)) (choose k xs)) = greatest_least k xs (λ rest. f (x ∷ rest)) with.0 shorter with.2 in
      let same : f part ≡ f (x ∷ with.0) = ap f with.1 in
      omega (arith, greatest_step f k x xs)
]

-- each list has so many members of another
abbrev pub AreParts : ℕ → List ℕ → List (List ℕ) → Type 0
AreParts k xs [] = Unit {0}
AreParts k xs (l ∷ ls) = (length l ≡ k) × IsPart l xs × AreParts k xs ls

AreParts-append : (k : ℕ) (xs : List ℕ) (ls ms : List (List ℕ)) → AreParts k xs ls → AreParts k xs ms → AreParts k xs (ls ++ ms)
AreParts-append k xs [] ms p q = q
AreParts-append k xs (l ∷ ls) ms p q = (p.0, p.1, AreParts-append k xs ls ms p.2 q)

AreParts-with : (k x : ℕ) (xs : List ℕ) (ls : List (List ℕ)) → AreParts k xs ls → AreParts (suc k) (x ∷ xs) (map (λ rest. x ∷ rest) ls)
AreParts-with k x xs [] p = tt
AreParts-with k x xs (l ∷ ls) p = (ap suc p.0, inr (l, refl, p.1), AreParts-with k x xs ls p.2)

AreParts-without : (k x : ℕ) (xs : List ℕ) (ls : List (List ℕ)) → AreParts k xs ls → AreParts k (x ∷ xs) ls
AreParts-without k x xs [] p = tt
AreParts-without k x xs (l ∷ ls) p = (p.0, inl p.1, AreParts-without k x xs ls p.2)

-- the choices are parts
pub AreParts-choose : (k : ℕ) (xs : List ℕ) → AreParts k xs (choose k xs)
AreParts-choose zero xs = (refl, none_part xs, tt)
AreParts-choose (suc k) [] = tt
AreParts-choose (suc k) (x ∷ xs) =
    AreParts-append (suc k) (x ∷ xs) (map (λ rest. x ∷ rest) (choose k xs)) (choose (suc k) xs) (AreParts-with k x xs (choose k xs) (AreParts-choose k xs)) (AreParts-without (suc k) x xs (choose (suc k) xs) (AreParts-choose (suc k) xs))
