-- Fives that are worth the same have the same ranks.
use Rattle.std.proofs.Common.{◌≡◌, ℕ, suc, zero, ◌+◌, ◌*◌, ◌≤◌, ◌<◌, ◌==◌, List, ◌++◌, ◌∷◌, [], refl, ap, ◌∙◌, sym, arith, Bool, true, false, cond, length, length-append, inl, inr, map, subst}
use Rattle.std.specs.Prelude.{nat_lt, ◌&&◌, Contains, slice_index_or, drop}
use Rattle.std.proofs.lemmas.Bool.{cases_eq, cases_lt}
use mathlib.Core.Bool.{true≢false}
use Rattle.card_sets.specs.Rising.{IsCardSet-rising}
use Rattle.rank_high.specs.High.{high, count_of_rank, groups, groups_counted, ranks_counted, group_count, is_flush, is_straight, is_wheel, pips, category_of}
use Rattle.rank_high.proofs.CallerLemmas.{length-groups_counted, sizes-all, total-all, InDeck-rising, count-most, grouped, pips_plain, pips_wheel, wheel_ranks}
use Rattle.rank_low.specs.Low.{low_a5, low_27, low_groups, count_of_low, is_run}
use Rattle.rank_low.proofs.CallerLemmas.{low-high, set-FewOfEach, sizes-groups}
use Rattle.rank_laws.specs.HighHands.{IsFive, HaveSameRanks, TiesHaveSameRanks}
use Rattle.rank_laws.specs.LowHands.{AceTiesHaveSameRanks, DeuceTiesHaveSameRanks}
use Rattle.rank_laws.proofs.HandCategories.{not_straight, flush_ranks}
use Rattle.rank_laws.proofs.LowHands.{none_counted, low_of}

first_same : (x y : ℕ) (xs ys : List ℕ) → x ∷ xs ≡ y ∷ ys → x ≡ y
first_same x y xs ys e = ap (λ l. slice_index_or l 0 0) e

rest_same : (x y : ℕ) (xs ys : List ℕ) → x ∷ xs ≡ y ∷ ys → xs ≡ ys
rest_same x y xs ys e = ap (λ l. drop 1 l) e

-- two functions that agree over a list agree at each of its numbers
same_at : (f g : ℕ → ℕ) (xs : List ℕ) (r : ℕ) → map f xs ≡ map g xs → Contains xs r → f r ≡ g r
same_at f g [] r e c = absurd (omega (arith, c.1))
same_at f g (x ∷ xs) r e (zero, h, p) = ap f (sym p) ∙ first_same (f x) (g x) (map f xs) (map g xs) e ∙ ap g p
same_at f g (x ∷ xs) r e (suc k, h, p) = same_at f g xs r (rest_same (f x) (g x) (map f xs) (map g xs) e) (k, omega arith, p)

-- the same groups of the same sizes are the same counts
counts_same : (f g : ℕ → ℕ) → ((rank : ℕ) → rank < 13 → f rank ≤ 4) → ((rank : ℕ) → rank < 13 → g rank ≤ 4) → groups_counted f ≡ groups_counted g → map f (groups_counted f) ≡ map g (groups_counted g)
    → (rank : ℕ) → rank < 13 → f rank ≡ g rank
counts_same f g few less same sizes rank h =
    let agree : map f (groups_counted f) ≡ map g (groups_counted f) = sizes ∙ ap (λ l. map g l) (sym same) in
    elim (cases_lt 0 (f rank)) [
      | inl some ↦ same_at f g (groups_counted f) rank agree (grouped f rank h some (few rank h))
      | inr none ↦ elim (cases_lt 0 (g rank)) [
        | inl some ↦ same_at f g (groups_counted f) rank agree (subst (λ l. Contains l rank) (sym same) (grouped g rank h some (less rank h)))
        | inr also ↦ omega arith
      ]
    ]

-- five cards, by the sizes of their groups
five_cards : (five : List ℕ) → IsFive five → 4 * group_count five 4 + 3 * group_count five 3 + 2 * group_count five 2 + group_count five 1 ≡ 5
unfolding ranks_counted
five_cards five is = sizes-all (count_of_rank five) 13 (λ k l. count-most five k is.0) ∙ total-all five (InDeck-rising 0 five (IsCardSet-rising five is.0)) ∙ is.1

-- a flush is five groups
paired_plain : (five : List ℕ) → IsFive five → (length (groups five) ≡ 5 → ⊥) → is_flush five ≡ false
paired_plain five is fewer = elim (is_flush five) as (λ b. is_flush five ≡ b → b ≡ false) [
  | true ↦ λ flush.
      let single : (rank : ℕ) → rank < 13 → count_of_rank five rank ≤ 1 = λ rank l. flush_ranks five rank is.0 flush in
      absurd (fewer (omega (arith, five_cards five is, length-groups_counted (count_of_rank five), none_counted (count_of_rank five) 4 (omega arith) single, none_counted (count_of_rank five) 3 (omega arith) single, none_counted (count_of_rank five) 2 (omega arith) single)))
  | false ↦ λ flush. refl
] refl

-- the category of cards that are neither a straight nor a flush: 7 for each four, 3 for each three, 1 for each pair, and 2 for a full house
kind : (fours threes pairs singles : ℕ) → 4 * fours + 3 * threes + 2 * pairs + singles ≡ 5
    → (full : ℕ) × (category_of false false fours threes pairs ≡ 7 * fours + 3 * threes + pairs + 2 * full) × (full ≤ threes) × (full ≤ pairs) × (pairs + 2 * threes ≤ full + 2)
unfolding category_of
kind fours threes pairs singles all = one (nat_lt 0 fours) (nat_lt 0 threes) (nat_lt 0 pairs) refl refl refl
  where
    none : (n : ℕ) → nat_lt 0 n ≡ false → n ≡ 0
    none n h = grind arith

    some : (n : ℕ) → nat_lt 0 n ≡ true → 0 < n
    some n h = grind arith

    one : (q t p : Bool) → nat_lt 0 fours ≡ q → nat_lt 0 threes ≡ t → nat_lt 0 pairs ≡ p
        → (full : ℕ) × (cond q 7 (cond (t && p) 6 (cond t 3 pairs)) ≡ 7 * fours + 3 * threes + pairs + 2 * full) × (full ≤ threes) × (full ≤ pairs) × (pairs + 2 * threes ≤ full + 2)
    one true t p a b d = let l = some fours a in (0, omega arith, omega arith, omega arith, omega arith)
    one false true true a b d = let e = none fours a in let l = some threes b in let m = some pairs d in (1, omega arith, omega arith, omega arith, omega arith)
    one false true false a b d = let e = none fours a in let l = some threes b in let m = none pairs d in (0, omega arith, omega arith, omega arith, omega arith)
    one false false p a b d = let e = none fours a in let l = none threes b in (0, omega arith, omega arith, omega arith, omega arith)

-- what the category of five cards goes by: whether their ranks are a straight, and their suits and groups
abbrev category_by : (List ℕ → Bool) → List ℕ → ℕ
category_by straight five = category_of (straight (groups five)) (is_flush five) (group_count five 4) (group_count five 3) (group_count five 2)

-- only five different ranks are a straight
abbrev IsOfFive : (List ℕ → Bool) → Type 0
IsOfFive straight = (ranks : List ℕ) → (length ranks ≡ 5 → ⊥) → straight ranks ≡ false

abbrev SameSizes : List ℕ → List ℕ → Type 0
SameSizes a b = (group_count a 4 ≡ group_count b 4) × (group_count a 3 ≡ group_count b 3) × (group_count a 2 ≡ group_count b 2) × (group_count a 1 ≡ group_count b 1)

-- as many groups and the same category are groups of the same sizes
same_sizes : (straight : List ℕ → Bool) (a b : List ℕ) → IsOfFive straight → IsFive a → IsFive b → groups a ≡ groups b → category_by straight a ≡ category_by straight b → SameSizes a b
same_sizes straight a b of_five p q same told =
    let x = five_cards a p in
    let y = five_cards b q in
    let lx = length-groups_counted (count_of_rank a) in
    let ly = length-groups_counted (count_of_rank b) in
    let number : length (groups a) ≡ length (groups b) = ap length same in
    elim (cases_eq (length (groups a)) 5) [
      | inl five ↦ (omega arith, omega arith, omega arith, omega arith)
      | inr fewer ↦
          let not_b : length (groups b) ≡ 5 → ⊥ = λ e. fewer (number ∙ e) in
          let of_a : category_by straight a ≡ category_of false false (group_count a 4) (group_count a 3) (group_count a 2) = rw (of_five (groups a) fewer, paired_plain a p fewer) refl in
          let of_b : category_by straight b ≡ category_of false false (group_count b 4) (group_count b 3) (group_count b 2) = rw (of_five (groups b) not_b, paired_plain b q not_b) refl in
          let k = kind (group_count a 4) (group_count a 3) (group_count a 2) (group_count a 1) x in
          let j = kind (group_count b 4) (group_count b 3) (group_count b 2) (group_count b 1) y in
          let equal : 7 * group_count a 4 + 3 * group_count a 3 + group_count a 2 + 2 * k.0 ≡ 7 * group_count b 4 + 3 * group_count b 3 + group_count b 2 + 2 * j.0 = sym k.1 ∙ sym of_a ∙ told ∙ of_b ∙ j.1 in
          let k1 = k.2 in
          let j1 = j.2 in
          (omega arith, omega arith, omega arith, omega arith)
    ]

same_counts : (a b : List ℕ) → IsFive a → IsFive b → groups a ≡ groups b → SameSizes a b → HaveSameRanks a b
same_counts a b p q same sizes =
    counts_same (count_of_rank a) (count_of_rank b) (λ rank l. count-most a rank p.0) (λ rank l. count-most b rank q.0) same
    (sizes-groups (count_of_rank a) ∙ rw (sizes.0, sizes.1, sizes.2, sizes.3) (sym (sizes-groups (count_of_rank b))))

told_flush : (straight x y : Bool) → category_of straight x 0 0 0 ≡ category_of straight y 0 0 0 → x ≡ y
unfolding category_of
told_flush straight true true e = refl
told_flush straight false false e = refl
told_flush true true false e = absurd (omega arith)
told_flush false true false e = absurd (omega arith)
told_flush true false true e = absurd (omega arith)
told_flush false false true e = absurd (omega arith)

-- both are a flush, or neither
same_flush : (straight : List ℕ → Bool) (a b : List ℕ) → IsFive a → IsFive b → groups a ≡ groups b → category_by straight a ≡ category_by straight b → is_flush a ≡ is_flush b
same_flush straight a b p q same told =
    let x = five_cards a p in
    let y = five_cards b q in
    let lx = length-groups_counted (count_of_rank a) in
    let ly = length-groups_counted (count_of_rank b) in
    let number : length (groups a) ≡ length (groups b) = ap length same in
    elim (cases_eq (length (groups a)) 5) [
      | inl five ↦
          let a4 : group_count a 4 ≡ 0 = omega arith in
          let a3 : group_count a 3 ≡ 0 = omega arith in
          let a2 : group_count a 2 ≡ 0 = omega arith in
          let b4 : group_count b 4 ≡ 0 = omega arith in
          let b3 : group_count b 3 ≡ 0 = omega arith in
          let b2 : group_count b 2 ≡ 0 = omega arith in
          let of_a : category_by straight a ≡ category_of (straight (groups a)) (is_flush a) 0 0 0 = rw (a4, a3, a2) refl in
          let of_b : category_by straight b ≡ category_of (straight (groups b)) (is_flush b) 0 0 0 = rw (b4, b3, b2) refl in
          told_flush (straight (groups a)) (is_flush a) (is_flush b) (sym of_a ∙ told ∙ of_b ∙ ap (λ l. category_of (straight l) (is_flush b) 0 0 0) (sym same))
      | inr fewer ↦ paired_plain a p fewer ∙ sym (paired_plain b q (λ e. fewer (number ∙ e)))
    ]

-- a list is told by its numbers with the same added to each
added_same : (n : ℕ) (xs ys : List ℕ) → map (λ r. r + n) xs ≡ map (λ r. r + n) ys → xs ≡ ys
added_same n [] [] e = refl
added_same n [] (y ∷ ys) e = absurd (omega (arith, ap length e))
added_same n (x ∷ xs) [] e = absurd (omega (arith, ap length e))
added_same n (x ∷ xs) (y ∷ ys) e =
    let first : x + n ≡ y + n = first_same (x + n) (y + n) (map (λ r. r + n) xs) (map (λ r. r + n) ys) e in
    let same : x ≡ y = omega arith in
    let rest : xs ≡ ys = added_same n xs ys (rest_same (x + n) (y + n) (map (λ r. r + n) xs) (map (λ r. r + n) ys) e) in
    rw (same, rest) refl

wheel_list : (ranks : List ℕ) → is_wheel ranks ≡ true → ranks ≡ 12 ∷ 3 ∷ 2 ∷ 1 ∷ 0 ∷ []
wheel_list [] w = absurd (true≢false (sym w))
wheel_list (a ∷ []) w = absurd (true≢false (sym w))
wheel_list (a ∷ b ∷ []) w = absurd (true≢false (sym w))
wheel_list (a ∷ b ∷ c ∷ []) w = absurd (true≢false (sym w))
wheel_list (a ∷ b ∷ c ∷ d ∷ []) w = absurd (true≢false (sym w))
wheel_list (a ∷ b ∷ c ∷ d ∷ e ∷ f ∷ rest) w = absurd (true≢false (sym w))
wheel_list (a ∷ b ∷ c ∷ d ∷ e ∷ []) w =
    let is = wheel_ranks a b c d e w in
    rw (is.ace, is.five, is.four, is.three, is.two) refl

two_or_more : (xs : List ℕ) (k : ℕ) → 2 ≤ slice_index_or (map (λ r. r + 2) xs) k 2
two_or_more [] k = omega arith
two_or_more (x ∷ xs) zero = omega arith
two_or_more (x ∷ xs) (suc k) = two_or_more xs k

-- an ace counts 1 in five to ace alone
no_low_ace : (xs : List ℕ) → map (λ r. r + 2) xs ≡ 5 ∷ 4 ∷ 3 ∷ 2 ∷ 1 ∷ [] → ⊥
no_low_ace xs e = let last : slice_index_or (map (λ r. r + 2) xs) 4 2 ≡ 1 = ap (λ l. slice_index_or l 4 2) e in omega (arith, two_or_more xs 4)

-- ranks are told by how they count
pips_told : (xs ys : List ℕ) → pips xs ≡ pips ys → xs ≡ ys
pips_told xs ys e = one (is_wheel xs) (is_wheel ys) refl refl
  where
    one : (v w : Bool) → is_wheel xs ≡ v → is_wheel ys ≡ w → xs ≡ ys
    one true true v w = wheel_list xs v ∙ sym (wheel_list ys w)
    one true false v w = absurd (no_low_ace ys (sym (pips_plain ys w) ∙ sym e ∙ pips_wheel xs v))
    one false true v w = absurd (no_low_ace xs (sym (pips_plain xs v) ∙ e ∙ pips_wheel ys w))
    one false false v w = added_same 2 xs ys (sym (pips_plain xs v) ∙ e ∙ pips_plain ys w)

straight_of_five : IsOfFive is_straight
straight_of_five ranks fewer = not_straight ranks fewer

run_of_five : IsOfFive is_run
run_of_five ranks fewer = let f : (length ranks == 5) ≡ false = grind arith in rw f refl

pub ties_have_same_ranks : TiesHaveSameRanks
unfolding high
ties_have_same_ranks a b p q e =
    let told : category_by is_straight a ≡ category_by is_straight b = first_same (category_by is_straight a) (category_by is_straight b) (pips (groups a)) (pips (groups b)) e in
    let same : groups a ≡ groups b = pips_told (groups a) (groups b) (rest_same (category_by is_straight a) (category_by is_straight b) (pips (groups a)) (pips (groups b)) e) in
    (same_counts a b p q same (same_sizes is_straight a b straight_of_five p q same told), same_flush is_straight a b p q same told)

pub deuce_ties_have_same_ranks : DeuceTiesHaveSameRanks
unfolding low_27
deuce_ties_have_same_ranks a b p q e =
    let told : category_by is_run a ≡ category_by is_run b = first_same (category_by is_run a) (category_by is_run b) (map (λ r. r + 2) (groups a)) (map (λ r. r + 2) (groups b)) e in
    let same : groups a ≡ groups b =
    added_same 2 (groups a) (groups b) (rest_same (category_by is_run a) (category_by is_run b) (map (λ r. r + 2) (groups a)) (map (λ r. r + 2) (groups b)) e) in
    (same_counts a b p q same (same_sizes is_run a b run_of_five p q same told), same_flush is_run a b p q same told)

-- equal lists with first parts of one length have the same parts
parts_same : (xs ys us vs : List ℕ) → length xs ≡ length ys → xs ++ us ≡ ys ++ vs → (xs ≡ ys) × (us ≡ vs)
parts_same [] [] us vs l e = (refl, e)
parts_same [] (y ∷ ys) us vs l e = absurd (omega arith)
parts_same (x ∷ xs) [] us vs l e = absurd (omega arith)
parts_same (x ∷ xs) (y ∷ ys) us vs l e =
    let first : x ≡ y = first_same x y (xs ++ us) (ys ++ vs) e in
    let rest = parts_same xs ys us vs (omega arith) (rest_same x y (xs ++ us) (ys ++ vs) e) in
    (rw (first, rest.0) refl, rest.1)

mapped_length : (f : ℕ → ℕ) (xs : List ℕ) → length (map f xs) ≡ length xs
mapped_length f [] = refl
mapped_length f (x ∷ xs) = ap suc (mapped_length f xs)

pub ace_ties_have_same_ranks : AceTiesHaveSameRanks
unfolding low_a5
ace_ties_have_same_ranks a b p q e =
    let halves_a : length (map (count_of_low a) (low_groups a) ++ map (λ r. r + 1) (low_groups a)) ≡ length (low_groups a) + length (low_groups a) =
    omega (arith, length-append (map (count_of_low a) (low_groups a)) (map (λ r. r + 1) (low_groups a)), mapped_length (count_of_low a) (low_groups a), mapped_length (λ r. r + 1) (low_groups a)) in
    let halves_b : length (map (count_of_low b) (low_groups b) ++ map (λ r. r + 1) (low_groups b)) ≡ length (low_groups b) + length (low_groups b) =
    omega (arith, length-append (map (count_of_low b) (low_groups b)) (map (λ r. r + 1) (low_groups b)), mapped_length (count_of_low b) (low_groups b), mapped_length (λ r. r + 1) (low_groups b)) in
    let whole : length (map (count_of_low a) (low_groups a) ++ map (λ r. r + 1) (low_groups a)) ≡ length (map (count_of_low b) (low_groups b) ++ map (λ r. r + 1) (low_groups b)) = ap length e in
    let first : length (map (count_of_low a) (low_groups a)) ≡ length (map (count_of_low b) (low_groups b)) =
    omega (arith, mapped_length (count_of_low a) (low_groups a), mapped_length (count_of_low b) (low_groups b)) in
    let parts = parts_same (map (count_of_low a) (low_groups a)) (map (count_of_low b) (low_groups b)) (map (λ r. r + 1) (low_groups a)) (map (λ r. r + 1) (low_groups b)) first e in
    let same : low_groups a ≡ low_groups b = added_same 1 (low_groups a) (low_groups b) parts.1 in
    λ rank h.
    let low = low_of rank h in
    let alike : count_of_low a low.0 ≡ count_of_low b low.0 = counts_same (count_of_low a) (count_of_low b) (set-FewOfEach a p.0) (set-FewOfEach b q.0) same parts.0 low.0 low.1 in
    ap (count_of_rank a) (sym low.2) ∙ sym (low-high a low.0 p.0 low.1) ∙ alike ∙ low-high b low.0 q.0 low.1 ∙ ap (count_of_rank b) low.2
