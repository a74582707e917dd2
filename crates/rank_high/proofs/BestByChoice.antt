-- The best of some fives, chosen card by card.
use Rattle.std.proofs.Common.{◌≡◌, ℕ, suc, zero, ◌-◌, ◌+◌, ◌≤◌, ◌<◌, List, ◌++◌, ◌∷◌, [], refl, ap, ◌∙◌, sym, arith, Bool, true, false, cond, length, length-append, inl, inr, map, max, append_assoc, append-nil, subst}
use Rattle.std.specs.Prelude.{slice_index_or, Contains}
use Rattle.std.specs.Ordering.{nat_cmp, is_lt}
use Rattle.std.specs.Cmp.{nat_cmp_is}
use Rattle.std.specs.Cmp.Lexicographic.{slice_cmp}
use Rattle.std.specs.declared.cmp.Ordering.TheVariants.{Less, Equal, Greater}
use Rattle.std.proofs.lemmas.Bool.{cases_order}
use mathlib.Core.Bool.{true≢false}
use Rattle.card_sets.specs.Choose.{choose}
use Rattle.rank_high.specs.High.{value_of, high, greatest_of, best_high}
use Rattle.rank_high.proofs.ValueOrder.{IsHighList, value_of-order, high-IsHighList}
use Rattle.card_sets.proofs.CallerLemmas.{greatest, greatest-append, choose-short, choose-some, choose-all}

-- each list is what some cards are worth
abbrev pub AreHighLists : List (List ℕ) → Type 0
AreHighLists [] = Unit {0}
AreHighLists (l ∷ ls) = IsHighList l × AreHighLists ls

-- each list has so many members
abbrev pub HaveLength : ℕ → List (List ℕ) → Type 0
HaveLength n [] = Unit {0}
HaveLength n (l ∷ ls) = (length l ≡ n) × HaveLength n ls

HaveLength-append : (n : ℕ) (ls ms : List (List ℕ)) → HaveLength n ls → HaveLength n ms → HaveLength n (ls ++ ms)
HaveLength-append n [] ms p q = q
HaveLength-append n (l ∷ ls) ms p q = (p.0, HaveLength-append n ls ms p.1 q)

HaveLength-map : (n x : ℕ) (ls : List (List ℕ)) → HaveLength n ls → HaveLength (suc n) (map (λ rest. x ∷ rest) ls)
HaveLength-map n x [] p = tt
HaveLength-map n x (l ∷ ls) p = (let e : length l ≡ n = p.0 in omega arith, HaveLength-map n x ls p.1)

pub HaveLength-choose : (k : ℕ) (xs : List ℕ) → HaveLength k (choose k xs)
HaveLength-choose zero xs = (refl, tt)
HaveLength-choose (suc k) [] = tt
HaveLength-choose (suc k) (x ∷ xs) =
    HaveLength-append (suc k) (map (λ rest. x ∷ rest) (choose k xs)) (choose (suc k) xs) (HaveLength-map k x (choose k xs) (HaveLength-choose k xs)) (HaveLength-choose (suc k) xs)

pub AreHighLists-map : (taken : List ℕ) (k : ℕ) (ls : List (List ℕ)) → length taken + k ≡ 5 → HaveLength k ls → AreHighLists (map (λ more. high (taken ++ more)) ls)
AreHighLists-map taken k [] h p = tt
AreHighLists-map taken k (l ∷ ls) h p =
    let whole : length (taken ++ l) ≡ length taken + length l = length-append taken l in
    let e : length l ≡ k = p.0 in
    (high-IsHighList (taken ++ l) (omega arith), AreHighLists-map taken k ls h p.1)

-- the number of the greater list is the greater number
greater : (l m : List ℕ) → IsHighList l → IsHighList m → value_of (cond (is_lt (slice_cmp nat_cmp l m)) m l) ≡ max (value_of l) (value_of m)
greater l m p q = ap (λ o. value_of (cond (is_lt o) m l)) (sym (value_of-order l m p q)) ∙ elim (cases_order (value_of l) (value_of m)) [
  | inl e ↦ ap (λ o. value_of (cond (is_lt o) m l)) (sym (nat_cmp_is (value_of l) (value_of m) Equal e)) ∙ omega arith
  | inr o ↦ elim o [
    | inl s ↦ ap (λ o. value_of (cond (is_lt o) m l)) (sym (nat_cmp_is (value_of l) (value_of m) Less s)) ∙ omega arith
    | inr g ↦ ap (λ o. value_of (cond (is_lt o) m l)) (sym (nat_cmp_is (value_of l) (value_of m) Greater g)) ∙ omega arith
  ]
]

pub value_of-none : value_of [] ≡ 0
unfolding value_of
value_of-none = refl

greater_high : (b : Bool) (l m : List ℕ) → IsHighList l → IsHighList m → IsHighList (cond b m l)
greater_high true l m p q = q
greater_high false l m p q = p

pub alone : (l : List ℕ) → IsHighList l → greatest_of (l ∷ []) ≡ l
alone [] p = absurd p
alone (c ∷ ps) p = refl

pub greatest_of-IsHighList : (l : List ℕ) (ls : List (List ℕ)) → IsHighList l → AreHighLists ls → IsHighList (greatest_of (l ∷ ls))
greatest_of-IsHighList l [] p q = let P : List ℕ → Type 0 = λ m. IsHighList m in subst P (sym (alone l p)) p
greatest_of-IsHighList l (m ∷ ms) p q = greater_high (is_lt (slice_cmp nat_cmp l (greatest_of (m ∷ ms)))) l (greatest_of (m ∷ ms)) p (greatest_of-IsHighList m ms q.0 q.1)

-- the number of the greatest list is the greatest of their numbers
pub value_of-greatest_of : (ls : List (List ℕ)) → AreHighLists ls → value_of (greatest_of ls) ≡ greatest (map value_of ls)
value_of-greatest_of [] p = value_of-none
value_of-greatest_of (l ∷ []) p = ap value_of (alone l p.0) ∙ omega arith
value_of-greatest_of (l ∷ m ∷ ms) p =
    greater l (greatest_of (m ∷ ms)) p.0 (greatest_of-IsHighList m ms p.1.0 p.1.1)
    ∙ ap (λ v. max (value_of l) v) (value_of-greatest_of (m ∷ ms) p.1)

-- the numbers of the fives that all the taken cards make with so many of the rest
abbrev numbers : List ℕ → List (List ℕ) → List ℕ
numbers taken ls = map value_of (map (λ more. high (taken ++ more)) ls)

-- what the code compares
pub max-not_less : (a b : ℕ) → is_lt (nat_cmp a b) ≡ false → a ≡ max a b
max-not_less a b h = elim (cases_order a b) [
  | inl e ↦ omega arith
  | inr o ↦ elim o [
    | inl l ↦ absurd (true≢false (ap is_lt (nat_cmp_is a b Less l) ∙ h))
    | inr g ↦ omega arith
  ]
]

pub max-less : (a b : ℕ) → is_lt (nat_cmp a b) ≡ true → b ≡ max a b
max-less a b h = elim (cases_order a b) [
  | inl e ↦ omega arith
  | inr o ↦ elim o [
    | inl l ↦ omega arith
    | inr g ↦ absurd (true≢false (sym h ∙ ap is_lt (sym (nat_cmp_is a b Greater g))))
  ]
]

pub best_high-five : (five : List ℕ) → length five ≡ 5 → best_high five ≡ high five
unfolding best_high
best_high-five five h =
    ap (λ k. greatest_of (map high (choose k five))) (sym h) ∙ ap (λ ls. greatest_of (map high ls)) (choose-all five) ∙ alone (high five) (high-IsHighList five (omega arith))

pub fives : (cards : List ℕ) → AreHighLists (map high (choose 5 cards))
fives cards = AreHighLists-map [] 5 (choose 5 cards) (omega arith) (HaveLength-choose 5 cards)

greatest_of-some : (ls : List (List ℕ)) (l : List ℕ) (rest : List (List ℕ)) → ls ≡ l ∷ rest → AreHighLists ls → IsHighList (greatest_of ls)
greatest_of-some [] l rest e p = absurd (omega (arith, ap length e))
greatest_of-some (m ∷ ms) l rest e p = greatest_of-IsHighList m ms p.0 p.1

pub best_high-IsHighList : (cards : List ℕ) → 5 ≤ length cards → IsHighList (best_high cards)
unfolding best_high
best_high-IsHighList cards h =
    let some = choose-some 5 cards h in
    greatest_of-some (map high (choose 5 cards)) (high some.0) (map high some.1) (ap (λ ls. map high ls) some.2) (fives cards)
