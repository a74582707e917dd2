-- The numbers of the best lows of five cards or more.
use Rattle.std.proofs.Common.{◌≡◌, ℕ, suc, zero, ◌+◌, ◌^◌, ◌≤◌, ◌<◌, ◌==◌, List, ◌∷◌, [], refl, ap, ◌∙◌, sym, arith, Bool, true, false, cond, length, length-append, map, subst, Some, None, max}
use Rattle.std.specs.Prelude.{filter, nat_lt}
use Rattle.std.specs.List.{list_all}
use Rattle.std.specs.Option.{option_map}
use Rattle.std.proofs.lemmas.Bool.{eqb-true, and_parts}
use Rattle.card_sets.specs.Cards.{IsCardSet}
use Rattle.card_sets.specs.Choose.{choose}
use Rattle.card_sets.specs.Rising.{IsCardSet-rising}
use Rattle.rank_high.specs.ByRanks.{falling, held}
use Rattle.card_sets.proofs.CallerLemmas.{greatest, IsPart, greatest_most, greatest_least}
use Rattle.rank_high.proofs.CallerLemmas.{Falls, Falls-falling, Falls-wider, falling-same}
use Rattle.rank_low.specs.Low.{low_a5, low_groups, count_of_low, ace_number, qualifies, least_of, best_low, best_eight}
use Rattle.rank_low.specs.Lowest.{low_digits, IsLowest}
use Rattle.rank_low.proofs.AceLists.{IsAceList}
use Rattle.rank_low.proofs.AceShapes.{FewOfEach, flat-number}
use Rattle.rank_low.proofs.TurnedNumbers.{turned, ace_turned, AreAceLists, from_turned, least_of-IsLeast}
use Rattle.rank_low.proofs.LowestFive.{five_turned, part-FewOfEach, all_of, lowest-least, low_digits-lt, groups-fall, reached, ace_five-number}
use Rattle.rank_low.proofs.BestLow.{with_taken-AreAceLists}

pub map_map : (ls : List (List ℕ)) → map ace_turned (map low_a5 ls) ≡ map five_turned ls
map_map [] = refl
map_map (l ∷ ls) = ap (λ ns. five_turned l ∷ ns) (map_map ls)

pub length-map_low_lists : (ls : List (List ℕ)) → length (map low_a5 ls) ≡ length ls
length-map_low_lists [] = refl
length-map_low_lists (l ∷ ls) = ap suc (length-map_low_lists ls)

pub some-choice : (k : ℕ) (xs : List ℕ) → k ≤ length xs → 0 < length (choose k xs)
some-choice zero xs h = omega arith
some-choice (suc k) [] h = absurd (omega arith)
some-choice (suc k) (x ∷ xs) h =
    let some : 0 < length (choose k xs) = some-choice k xs (omega arith) in
    omega (arith, length-append (map (λ rest. x ∷ rest) (choose k xs)) (choose (suc k) xs), longer (choose k xs))
  where
    longer : (ls : List (List ℕ)) → length (map (λ rest. x ∷ rest) ls) ≡ length ls
    longer [] = refl
    longer (l ∷ ls) = ap suc (longer ls)

-- counts that are the same give the same lowest five
pub lowest-same : (f g : ℕ → ℕ) (below v : ℕ) → ((k : ℕ) → k < 13 → f k ≡ g k) → below ≤ 13 → IsLowest (held f 0) below v → IsLowest (held g 0) below v
lowest-same f g below v same h low =
    let e : falling (held f 0) low.0 ≡ falling (held g 0) low.0 = falling-same (held f 0) (held g 0) low.0 (λ r l. ap (λ n. nat_lt 0 n) (same r (let b = low.1 in omega arith))) in
    (low.0, low.1, ap length (sym e) ∙ low.2, low.3 ∙ ap low_digits e)

pub lowest-small : (p : ℕ → Bool) (below v : ℕ) → below ≤ 13 → IsLowest p below v → v < 1048576
lowest-small p below v h low =
    let small : low_digits (falling p low.0) < 16 ^ 5 = low_digits-lt p low.0 5 (falling p low.0) (let b = low.1 in omega arith) (Falls-falling p low.0) in
    omega (arith, low.3)

-- the best low of cards of five different ranks
pub ace_five-is : (cards : List ℕ) (v : ℕ) → IsCardSet cards → 5 ≤ length cards → IsLowest (held (count_of_low cards) 0) 13 v → Some (17825792 + v) ≡ option_map ace_number (best_low cards)
unfolding best_low
ace_five-is cards v set h low =
    let small : v < 1048576 = lowest-small (held (count_of_low cards) 0) 13 v (omega arith) low in
    from_turned (map low_a5 (choose 5 cards)) (17825792 + v) (with_taken-AreAceLists [] 5 cards (IsCardSet-rising cards set) refl) (omega (arith, length-map_low_lists (choose 5 cards), some-choice 5 cards h)) (omega arith)
    (sym (ap greatest (map_map (choose 5 cards)) ∙ ace_five-number cards v set low))

-- what five cards are worth, turned round, if they qualify
abbrev pub eight_turned : List ℕ → ℕ
eight_turned five = cond (qualifies five) (five_turned five) 0

pub greatest-filter : (ls : List (List ℕ)) → greatest (map ace_turned (map low_a5 (filter qualifies ls))) ≡ greatest (map eight_turned ls)
greatest-filter [] = refl
greatest-filter (l ∷ ls) = one (greatest-filter ls) (qualifies l)
  where
    one : greatest (map ace_turned (map low_a5 (filter qualifies ls))) ≡ greatest (map eight_turned ls) → (b : Bool)
        → greatest (map ace_turned (map low_a5 (cond b (l ∷ filter qualifies ls) (filter qualifies ls)))) ≡ max (cond b (five_turned l) 0) (greatest (map eight_turned ls))
    one ih true = ap (λ v. max (five_turned l) v) ih
    one ih false = omega arith

pub AreAceLists-filter : (ls : List (List ℕ)) → AreAceLists (map low_a5 ls) → AreAceLists (map low_a5 (filter qualifies ls))
AreAceLists-filter [] p = tt
AreAceLists-filter (l ∷ ls) p = one p.0 (AreAceLists-filter ls p.1) (qualifies l)
  where
    one : IsAceList (low_a5 l) → AreAceLists (map low_a5 (filter qualifies ls)) → (b : Bool) → AreAceLists (map low_a5 (cond b (l ∷ filter qualifies ls) (filter qualifies ls)))
    one a q true = (a, q)
    one a q false = q

pub eight-AreAceLists : (cards : List ℕ) → IsCardSet cards → AreAceLists (map low_a5 (filter qualifies (choose 5 cards)))
eight-AreAceLists cards set = AreAceLists-filter (choose 5 cards) (with_taken-AreAceLists [] 5 cards (IsCardSet-rising cards set) refl)

-- what it is to qualify
pub record Qualifies (five : List ℕ) : Type 0 where
  pub groups : length (low_groups five) ≡ 5
  pub low : list_all (λ r. nat_lt r 8) (low_groups five) ≡ true

pub qualifies-is : (five : List ℕ) → qualifies five ≡ true → Qualifies five
unfolding qualifies
qualifies-is five e =
    let parts = and_parts (length (low_groups five) == 5) (list_all (λ r. nat_lt r 8) (low_groups five)) e in
    record { groups = eqb-true (length (low_groups five)) 5 parts.0; low = parts.1 }

pub is-qualifies : (five : List ℕ) → length (low_groups five) ≡ 5 → list_all (λ r. nat_lt r 8) (low_groups five) ≡ true → qualifies five ≡ true
unfolding qualifies
is-qualifies five e f = let t : (length (low_groups five) == 5) ≡ true = grind arith in rw (t, f) refl

lt-true : (a b : ℕ) → nat_lt a b ≡ true → a < b
lt-true a b h = grind arith

lt-is : (a b : ℕ) → a < b → nat_lt a b ≡ true
lt-is a b h = grind arith

-- falling ranks below eight
falls-eight : (p : ℕ → Bool) (rs : List ℕ) → Falls p 13 rs → list_all (λ r. nat_lt r 8) rs ≡ true → Falls p 8 rs
falls-eight p [] f h = tt
falls-eight p (r ∷ rs) f h = (lt-true r 8 (and_parts (nat_lt r 8) (list_all (λ r. nat_lt r 8) rs) h).0, f.1, f.2)

all-eight : (p : ℕ → Bool) (n : ℕ) (rs : List ℕ) → n ≤ 8 → Falls p n rs → list_all (λ r. nat_lt r 8) rs ≡ true
all-eight p n [] h f = refl
all-eight p n (r ∷ rs) h f =
    let t : nat_lt r 8 ≡ true = lt-is r 8 (omega (arith, f.0)) in
    let rest : list_all (λ r. nat_lt r 8) rs ≡ true = all-eight p r rs (omega (arith, f.0)) f.2 in
    rw (t, rest) refl

pub some_of : (ls : List (List ℕ)) → 0 < greatest (map ace_turned ls) → 0 < length ls
some_of [] h = absurd (omega arith)
some_of (l ∷ ls) h = omega arith

eight-number : (cards : List ℕ) (v : ℕ) → IsCardSet cards → IsLowest (held (count_of_low cards) 0) 8 v → greatest (map eight_turned (choose 5 cards)) ≡ turned (17825792 + v)
eight-number cards v set low =
    let n : ℕ = low.0 in
    let p : ℕ → Bool = held (count_of_low cards) 0 in
    let few_ranks : n ≤ 13 = omega (arith, low.1) in
    let falls : Falls p 13 (falling p n) = Falls-wider p p n 13 (falling p n) (λ r l t. t) few_ranks (Falls-falling p n) in
    let small : v < 1048576 = lowest-small p 8 v (omega arith) low in
    let most : greatest (map eight_turned (choose 5 cards)) ≤ turned (17825792 + v) = greatest_most 5 cards eight_turned (turned (17825792 + v)) (λ part five inside. each part five inside (qualifies part) refl) in
    let r = reached cards (falling p n) low.2 falls in
    let g : length (low_groups r.part) ≡ 5 = ap length r.groups ∙ low.2 in
    let q : qualifies r.part ≡ true = is-qualifies r.part g (ap (λ l. list_all (λ r. nat_lt r 8) l) r.groups ∙ all-eight p n (falling p n) low.1 (Falls-falling p n)) in
    let at : eight_turned r.part ≤ greatest (map eight_turned (choose 5 cards)) = greatest_least 5 cards eight_turned r.part r.five r.inside in
    let here : eight_turned r.part ≡ five_turned r.part = rw q refl in
    let value : ace_number (low_a5 r.part) ≡ 17825792 + v = flat-number r.part r.five (part-FewOfEach r.part cards set r.inside) g ∙ (let e : low_digits (low_groups r.part) ≡ v = ap low_digits r.groups ∙ sym low.3 in ap (λ k. 17825792 + k) e) in
    omega arith
  where
    each : (part : List ℕ) → length part ≡ 5 → IsPart part cards → (b : Bool) → qualifies part ≡ b → cond b (five_turned part) 0 ≤ turned (17825792 + v)
    each part five inside false e = omega arith
    each part five inside true e =
        let few : FewOfEach part = part-FewOfEach part cards set inside in
        let q = qualifies-is part e in
        let few_ranks : low.0 ≤ 13 = omega (arith, low.1) in
        let least = lowest-least (held (count_of_low cards) 0) low.0 (low_groups part) few_ranks low.2 q.groups (groups-fall part cards inside five few q.groups) in
        omega (arith, flat-number part five few q.groups, low.3)

-- the best low of eight or better where five ranks of eight or below can be chosen
pub eight-is : (cards : List ℕ) (v : ℕ) → IsCardSet cards → IsLowest (held (count_of_low cards) 0) 8 v → Some (17825792 + v) ≡ option_map ace_number (best_eight cards)
unfolding best_eight
eight-is cards v set low =
    let small : v < 1048576 = lowest-small (held (count_of_low cards) 0) 8 v (omega arith) low in
    let number : greatest (map ace_turned (map low_a5 (filter qualifies (choose 5 cards)))) ≡ turned (17825792 + v) = greatest-filter (choose 5 cards) ∙ eight-number cards v set low in
    from_turned (map low_a5 (filter qualifies (choose 5 cards))) (17825792 + v) (eight-AreAceLists cards set) (some_of (map low_a5 (filter qualifies (choose 5 cards))) (omega arith)) (omega arith) (sym number)

abbrev one_if : List ℕ → ℕ
one_if five = cond (qualifies five) 1 0

filter-none : (ls : List (List ℕ)) → greatest (map one_if ls) ≤ 0 → filter qualifies ls ≡ []
filter-none [] h = refl
filter-none (l ∷ ls) h = one (λ i. filter-none ls i) (qualifies l) h
  where
    one : (greatest (map one_if ls) ≤ 0 → filter qualifies ls ≡ []) → (b : Bool) → max (cond b 1 0) (greatest (map one_if ls)) ≤ 0 → cond b (l ∷ filter qualifies ls) (filter qualifies ls) ≡ []
    one ih true h = absurd (omega arith)
    one ih false h = ih (omega arith)

-- there is none where they can't
pub eight-none : (cards : List ℕ) → IsCardSet cards → length (falling (held (count_of_low cards) 0) 8) < 5 → best_eight cards ≡ None
unfolding best_eight
eight-none cards set short =
    let none : filter qualifies (choose 5 cards) ≡ [] = filter-none (choose 5 cards) (greatest_most 5 cards one_if 0 (λ part five inside. each part five inside (qualifies part) refl)) in
    ap (λ ls. least_of (map low_a5 ls)) none
  where
    each : (part : List ℕ) → length part ≡ 5 → IsPart part cards → (b : Bool) → qualifies part ≡ b → cond b 1 0 ≤ 0
    each part five inside false e = omega arith
    each part five inside true e =
        let q = qualifies-is part e in
        let falls = groups-fall part cards inside five (part-FewOfEach part cards set inside) q.groups in
        let all = all_of (held (count_of_low cards) 0) 8 (low_groups part) (falls-eight (held (count_of_low cards) 0) (low_groups part) falls q.low) in
        absurd (omega (arith, all.0, q.groups))

some_is : (a b : List ℕ) → Some a ≡ Some b → a ≡ b
some_is a b e = cc

-- what is least of such lists is one
pub least-IsAceList : (ls : List (List ℕ)) (x : List ℕ) → AreAceLists ls → least_of ls ≡ Some x → IsAceList x
least-IsAceList [] x p e = absurd (differ x (sym e))
  where
    differ : (x : List ℕ) → Some x ≡ None → ⊥
    differ x e = cc
least-IsAceList (l ∷ ls) x p e =
    let least = least_of-IsLeast l ls p in
    let P : List ℕ → Type 0 = λ m. IsAceList m in
    subst P (some_is least.list x (sym least.is ∙ e)) least.ace
