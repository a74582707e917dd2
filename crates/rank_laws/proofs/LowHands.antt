-- The usual rules of low poker.
use Rattle.std.proofs.Common.{◌≡◌, ℕ, suc, zero, ◌+◌, ◌*◌, ◌^◌, ◌≤◌, ◌<◌, ◌==◌, List, ◌++◌, ◌∷◌, [], refl, ap, ◌∙◌, sym, arith, Bool, true, false, cond, length, inl, inr, map, Option, Some, None, ◌⊎◌}
use Rattle.std.specs.Prelude.{nat_lt, nat_le, is_some, ◌&&◌, Contains}
use Rattle.std.specs.Option.{option_map}
use Rattle.std.specs.Cmp.{nat_cmp_is}
use Rattle.std.specs.Ordering.{nat_cmp}
use Rattle.std.specs.Cmp.Lexicographic.{slice_cmp}
use Rattle.std.specs.declared.cmp.Ordering.TheVariants.{Less}
use Rattle.std.proofs.lemmas.Bool.{cases_eq, cases_lt, eqb-true}
use Rattle.rank_high.specs.High.{count_of_rank, groups, groups_counted, ranks_counted, ranks_below, is_flush, value_of, digits_from, category_of, group_count}
use Rattle.rank_high.specs.ByRanks.{falling, held}
use Rattle.rank_laws.specs.HighHands.{IsFive, AreFiveToAce}
use Rattle.card_sets.specs.Rising.{IsCardSet-rising}
use mathlib.Core.Bool.{true≢false}
use Rattle.rank_low.proofs.CallerLemmas.{low_27-IsHighList}
use Rattle.rank_high.proofs.CallerLemmas.{groups_counted-same, ranks_counted-same, length-groups_counted, total, total-cards, Falls, Falls-wider, contains_counted, count-most, value_of-order, falls_counted, sizes-all, total-all, InDeck-rising}
use Rattle.rank_laws.proofs.UnbeatenFives.{not_less}
use Rattle.rank_laws.proofs.Straights.{row_groups, low_row_groups, low_row_of, low_row_within, low_row, squeezed}
use Rattle.card_sets.proofs.CallerLemmas.{IsPart}
use Rattle.rank_low.specs.Low.{low_a5, low_27, low_groups, count_of_low, ace_number, ace_low, is_run, best_eight}
use Rattle.rank_low.specs.Lowest.{low_digits}
use Rattle.rank_laws.specs.LowHands.{SevenLowIsBest, AreSevenLow, FiveToAceIsBest, RanksAloneCount, NoPairBeatsPair, StraightsDontCount, FiveToAceIsAceHigh, StraightsAndFlushesLose, QualifyByRanks, HasNoPair, HasPair, low_ranks}
use Rattle.rank_low.proofs.CallerLemmas.{low-high, high_rank, length-map_low}
use Rattle.rank_low.proofs.CallerLemmas.{IsAceList, ace-order}
use Rattle.rank_low.proofs.CallerLemmas.{set-FewOfEach, low_a5-IsAceList, five_single, five_sizes, fours, threes, pairs, flat-number, paired-number, sizes-groups}
use Rattle.rank_low.proofs.CallerLemmas.{groups-fall, lowest-least, low_digits-lt}
use Rattle.rank_low.proofs.CallerLemmas.{eight-is, eight-none}

self_part : (xs : List ℕ) → IsPart xs xs
self_part [] = refl
self_part (x ∷ xs) = inr (xs, refl, self_part xs)

ace_list : (five : List ℕ) → IsFive five → IsAceList (low_a5 five)
ace_list five is = low_a5-IsAceList five is.1 (set-FewOfEach five is.0)

high_rank-lt : (rank : ℕ) → rank < 13 → high_rank rank < 13
high_rank-lt zero h = omega arith
high_rank-lt (suc rank) h = omega arith

pub none_counted : (f : ℕ → ℕ) (size : ℕ) → 2 ≤ size → ((rank : ℕ) → rank < 13 → f rank ≤ 1) → length (ranks_counted f size) ≡ 0
unfolding ranks_counted
none_counted f size two h = none (ranks_below f size 13) (falls_counted f size)
  where
    none : (ls : List ℕ) → Falls (λ r. f r == size) 13 ls → length ls ≡ 0
    none [] p = refl
    none (x ∷ ls) p = let e : f x ≡ size = eqb-true (f x) size p.1 in let l : f x ≤ 1 = h x p.0 in absurd (omega arith)

-- five different ranks are five groups
pub no_pair-groups : (five : List ℕ) → IsFive five → HasNoPair five → length (low_groups five) ≡ 5
no_pair-groups five is single =
    let few : (rank : ℕ) → rank < 13 → count_of_low five rank ≤ 1 = λ rank l. (let a = low-high five rank is.0 l in let b = single (high_rank rank) (high_rank-lt rank l) in omega arith) in
    omega (arith, five_sizes five is.1 (set-FewOfEach five is.0), length-groups_counted (count_of_low five), none_counted (count_of_low five) 4 (omega arith) few, none_counted (count_of_low five) 3 (omega arith) few, none_counted (count_of_low five) 2 (omega arith) few)

some_length : (xs : List ℕ) (x : ℕ) → Contains xs x → 0 < length xs
some_length xs x c = omega (arith, c.1)

counted_some : (f : ℕ → ℕ) (size rank : ℕ) → rank < 13 → f rank ≡ size → 0 < length (ranks_counted f size)
unfolding ranks_counted
counted_some f size rank h e = some_length (ranks_below f size 13) rank (contains_counted f size 13 rank h e)

pub low_of : (rank : ℕ) → rank < 13 → (low : ℕ) × (low < 13) × (high_rank low ≡ rank)
low_of rank h = elim (cases_eq rank 12) [
  | inl e ↦ (0, omega arith, sym e)
  | inr ne ↦ (suc rank, omega arith, refl)
]

-- five with a pair aren't five groups
pub pair-groups : (five : List ℕ) (rank : ℕ) → IsFive five → HasPair five rank → length (low_groups five) ≡ 5 → ⊥
pair-groups five rank is pair g =
    let few = set-FewOfEach five is.0 in
    let s = five_single five is.1 few g in
    let low = low_of rank pair.0 in
    let n : count_of_low five low.0 ≡ count_of_rank five rank = low-high five low.0 is.0 low.1 ∙ ap (count_of_rank five) low.2 in
    let most = few low.0 low.1 in
    elim (cases_eq (count_of_low five low.0) 2) [
      | inl e ↦ (let l = counted_some (count_of_low five) 2 low.0 low.1 e in omega (arith, s.2))
      | inr not_two ↦ elim (cases_eq (count_of_low five low.0) 3) [
        | inl e ↦ (let l = counted_some (count_of_low five) 3 low.0 low.1 e in omega (arith, s.1))
        | inr not_three ↦ (let two = pair.1 in let four : count_of_low five low.0 ≡ 4 = omega arith in let l = counted_some (count_of_low five) 4 low.0 low.1 four in omega (arith, s.0))
      ]
    ]

flat_small : (five : List ℕ) → IsFive five → length (low_groups five) ≡ 5 → low_digits (low_groups five) < 1048576
flat_small five is g =
    let falls = groups-fall five five (self_part five) is.1 (set-FewOfEach five is.0) g in
    let small : low_digits (low_groups five) < 16 ^ 5 = low_digits-lt (held (count_of_low five) 0) 13 5 (low_groups five) (omega arith) falls in
    omega arith

less_is : (a b : List ℕ) → IsFive a → IsFive b → ace_number (low_a5 a) < ace_number (low_a5 b) → slice_cmp nat_cmp (low_a5 a) (low_a5 b) ≡ Less
less_is a b p q l = sym (ace-order (low_a5 a) (low_a5 b) (ace_list a p) (ace_list b q)) ∙ sym (nat_cmp_is (ace_number (low_a5 a)) (ace_number (low_a5 b)) Less l)

pub no_pair_beats_pair : NoPairBeatsPair
no_pair_beats_pair a b rank p q single pair =
    let g = no_pair-groups a p single in
    let small = flat_small a p g in
    let x = flat-number a p.1 (set-FewOfEach a p.0) g in
    let y = paired-number b q.1 (set-FewOfEach b q.0) (pair-groups b rank q pair) in
    less_is a b p q (omega arith)

pub straights_dont_count : StraightsDontCount
unfolding low_a5
straights_dont_count five is single =
    let s = five_single five is.1 (set-FewOfEach five is.0) (no_pair-groups five is single) in
    let sizes : map (count_of_low five) (low_groups five) ≡ 1 ∷ 1 ∷ 1 ∷ 1 ∷ 1 ∷ [] = sizes-groups (count_of_low five) ∙ rw (s.0, s.1, s.2, s.3) refl in
    ap (λ l. l ++ map (λ r. r + 1) (low_groups five)) sizes

five_low : (five : List ℕ) → IsFive five → AreFiveToAce five → low_groups five ≡ 4 ∷ 3 ∷ 2 ∷ 1 ∷ 0 ∷ []
five_low five is are = row_groups (map ace_low five) 0 (length-map_low five ∙ is.1) (omega arith, λ k l. at k l)
  where
    at : (k : ℕ) → k < 5 → count_of_low five (0 + k) ≡ 1
    at zero l = low-high five 0 is.0 (omega arith) ∙ are.0
    at (suc k) l = let e : 0 + suc k ≡ suc k = omega arith in rw e (low-high five (suc k) is.0 (omega arith) ∙ are.1 k (omega arith))

no_less : (five : List ℕ) → IsFive five → 18170657 ≤ ace_number (low_a5 five)
no_less five is = elim (cases_eq (length (low_groups five)) 5) [
  | inl g ↦
      let falls = groups-fall five five (self_part five) is.1 (set-FewOfEach five is.0) g in
      let least : 344865 ≤ low_digits (low_groups five) = lowest-least (λ r. true) 5 (low_groups five) (omega arith) refl g (Falls-wider (held (count_of_low five) 0) (λ r. true) 13 13 (low_groups five) (λ r l t. refl) (omega arith) falls) in
      omega (arith, flat-number five is.1 (set-FewOfEach five is.0) g)
  | inr other ↦ omega (arith, paired-number five is.1 (set-FewOfEach five is.0) other)
]

pub five_to_ace_is_best : FiveToAceIsBest
five_to_ace_is_best a b p q are less =
    let groups = five_low a p are in
    let number : ace_number (low_a5 a) ≡ 17825792 + low_digits (4 ∷ 3 ∷ 2 ∷ 1 ∷ 0 ∷ []) = flat-number a p.1 (set-FewOfEach a p.0) (ap length groups) ∙ ap (λ l. 17825792 + low_digits l) groups in
    not_less (ace_number (low_a5 b)) (ace_number (low_a5 a)) (omega (arith, no_less b q)) (ace-order (low_a5 b) (low_a5 a) (ace_list b q) (ace_list a p) ∙ less)

pub ranks_alone_count : RanksAloneCount
unfolding low_a5
ranks_alone_count a b p q h =
    let same : (rank : ℕ) → rank < 13 → count_of_low a rank ≡ count_of_low b rank = λ rank l. low-high a rank p.0 l ∙ h (high_rank rank) (high_rank-lt rank l) ∙ sym (low-high b rank q.0 l) in
    let groups : low_groups a ≡ low_groups b = groups_counted-same (count_of_low a) (count_of_low b) same in
    let sizes : map (count_of_low a) (low_groups a) ≡ map (count_of_low b) (low_groups b) = sizes-groups (count_of_low a) ∙ rw (ranks_counted-same (count_of_low a) (count_of_low b) 4 same, ranks_counted-same (count_of_low a) (count_of_low b) 3 same, ranks_counted-same (count_of_low a) (count_of_low b) 2 same, ranks_counted-same (count_of_low a) (count_of_low b) 1 same) (sym (sizes-groups (count_of_low b))) in
    rw (sizes, groups) refl

-- where there are five ranks there are the lowest five
lowest : (p : ℕ → Bool) (below : ℕ) → 5 ≤ length (falling p below) → (n : ℕ) × (n ≤ below) × (length (falling p n) ≡ 5)
lowest p zero h = absurd (omega arith)
lowest p (suc below) h = elim (cases_eq (length (falling p (suc below))) 5) [
  | inl e ↦ (suc below, omega arith, e)
  | inr ne ↦
      let rest : 5 ≤ length (falling p below) = one (p below) h ne in
      let l = lowest p below rest in
      (l.0, omega (arith, l.1), l.2)
]
  where
    one : (b : Bool) → 5 ≤ length (cond b (below ∷ []) [] ++ falling p below) → (length (cond b (below ∷ []) [] ++ falling p below) ≡ 5 → ⊥) → 5 ≤ length (falling p below)
    one true h ne = elim (cases_lt (length (falling p below)) 5) [ inl l ↦ absurd (ne (omega arith)) | inr ge ↦ ge ]
    one false h ne = h

pub qualify_by_ranks : QualifyByRanks
qualify_by_ranks cards set = elim (cases_lt (low_ranks cards) 5) [
  | inl l ↦
      let f : nat_le 5 (low_ranks cards) ≡ false = grind arith in
      rw (eight-none cards set l, f) refl
  | inr ge ↦
      let t : nat_le 5 (low_ranks cards) ≡ true = grind arith in
      let n = lowest (held (count_of_low cards) 0) 8 ge in
      let some = eight-is cards (low_digits (falling (held (count_of_low cards) 0) n.0)) set (n.0, n.1, n.2, refl) in
      rw t (some_is (best_eight cards) _ some)
]
  where
    some_is : (o : Option (List ℕ)) (v : ℕ) → Some v ≡ option_map ace_number o → is_some o ≡ true
    some_is (Some x) v e = refl
    some_is None v e = absurd (differ v e)
      where
        differ : (v : ℕ) → Some v ≡ None → ⊥
        differ v e = cc

-- five to ace are ace high
pub five_to_ace_is_ace_high : FiveToAceIsAceHigh
unfolding low_27 ranks_counted category_of
five_to_ace_is_ace_high five is are plain =
    let groups_are : groups five ≡ 12 ∷ 3 ∷ 2 ∷ 1 ∷ 0 ∷ [] = low_row_groups five is.1 are in
    let same : (k : ℕ) → k < 13 → count_of_rank five k ≡ low_row k = squeezed low_row (count_of_rank five) 13 (λ k l. low_row_within (count_of_rank five) are.0 are.1 k) (omega (arith, total-cards five 13, is.1, low_row_of.0)) in
    rw (groups_are, plain, ranks_counted-same (count_of_rank five) low_row 4 same, ranks_counted-same (count_of_rank five) low_row 3 same, ranks_counted-same (count_of_rank five) low_row 2 same) refl

-- a straight or a flush has a category of four or more
pub category-more : (straight flush : Bool) (fours threes pairs : ℕ) → (straight ≡ true) ⊎ (flush ≡ true) → 4 ≤ category_of straight flush fours threes pairs
unfolding category_of
category-more straight flush fours threes pairs h = one straight flush (nat_lt 0 fours) (nat_lt 0 threes && nat_lt 0 pairs) h
  where
    one : (straight flush four full : Bool) → (straight ≡ true) ⊎ (flush ≡ true) → 4 ≤ cond (straight && flush) 8 (cond four 7 (cond full 6 (cond flush 5 (cond straight 4 (cond (nat_lt 0 threes) 3 pairs)))))
    one true true four full h = omega arith
    one true false true full h = omega arith
    one true false false true h = omega arith
    one true false false false h = omega arith
    one false true true full h = omega arith
    one false true false true h = omega arith
    one false true false false h = omega arith
    one false false four full h = elim h [ inl e ↦ absurd (differ e) | inr e ↦ absurd (differ e) ]
      where
        differ : false ≡ true → ⊥
        differ e = cc

lowest_category : category_of false false 0 0 0 ≡ 0
unfolding category_of
lowest_category = refl

less_first : (x y : ℕ) (xs ys : List ℕ) → x < y → slice_cmp nat_cmp (x ∷ xs) (y ∷ ys) ≡ Less
less_first x y xs ys l = rw (← nat_cmp_is x y Less l) refl

pub straights_and_flushes_lose : StraightsAndFlushesLose
unfolding low_27
straights_and_flushes_lose a b p q counts single bent mixed =
    let more : 4 ≤ category_of (is_run (groups a)) (is_flush a) (group_count a 4) (group_count a 3) (group_count a 2) = category-more (is_run (groups a)) (is_flush a) (group_count a 4) (group_count a 3) (group_count a 2) counts in
    let none : category_of (is_run (groups b)) (is_flush b) (group_count b 4) (group_count b 3) (group_count b 2) ≡ 0 =
    rw (bent, mixed, none_counted (count_of_rank b) 4 (omega arith) single, none_counted (count_of_rank b) 3 (omega arith) single, none_counted (count_of_rank b) 2 (omega arith) single) lowest_category in
    let first = less_first 0 (category_of (is_run (groups a)) (is_flush a) (group_count a 4) (group_count a 3) (group_count a 2)) (map (λ r. r + 2) (groups b)) (map (λ r. r + 2) (groups a)) (omega arith) in
    rw none first

-- one of each of the ranks of seven, five, four, three and deuce
abbrev seven_row : ℕ → ℕ
seven_row k = cond (nat_lt k 4) 1 (cond (k == 5) 1 0)

seven_row_of : (total seven_row 13 ≡ 5) × (groups_counted seven_row ≡ 5 ∷ 3 ∷ 2 ∷ 1 ∷ 0 ∷ [])
unfolding groups_counted ranks_counted
seven_row_of = (refl, refl)

seven_row_within : (f : ℕ → ℕ) → f 5 ≡ 1 → ((k : ℕ) → k < 4 → f k ≡ 1) → (k : ℕ) → seven_row k ≤ f k
seven_row_within f seven h k = elim (cases_lt k 4) [
  | inl l ↦ (let yes : nat_lt k 4 ≡ true = grind arith in rw yes (omega (arith, h k l)))
  | inr ge ↦
      let no : nat_lt k 4 ≡ false = grind arith in
      elim (cases_eq k 5) [
        | inl e ↦ (let t : (k == 5) ≡ true = grind arith in rw (no, t) (omega (arith, ap f e)))
        | inr ne ↦ (let u : (k == 5) ≡ false = grind arith in rw (no, u) (omega arith))
      ]
]

seven_low-list : (five : List ℕ) → IsFive five → AreSevenLow five → is_flush five ≡ false → low_27 five ≡ 0 ∷ 7 ∷ 5 ∷ 4 ∷ 3 ∷ 2 ∷ []
unfolding low_27 ranks_counted category_of
seven_low-list five is are plain =
    let same : (k : ℕ) → k < 13 → count_of_rank five k ≡ seven_row k = squeezed seven_row (count_of_rank five) 13 (λ k l. seven_row_within (count_of_rank five) are.0 are.1 k) (omega (arith, total-cards five 13, is.1, seven_row_of.0)) in
    let groups_are : groups five ≡ 5 ∷ 3 ∷ 2 ∷ 1 ∷ 0 ∷ [] = groups_counted-same (count_of_rank five) seven_row same ∙ seven_row_of.1 in
    rw (groups_are, plain, ranks_counted-same (count_of_rank five) seven_row 4 same, ranks_counted-same (count_of_rank five) seven_row 3 same, ranks_counted-same (count_of_rank five) seven_row 2 same) refl

-- what it is to have no pair, no straight and no flush
zero_category : (straight flush : Bool) (fours threes pairs : ℕ) → category_of straight flush fours threes pairs ≡ 0 → (straight ≡ false) × (fours ≡ 0) × (threes ≡ 0) × (pairs ≡ 0)
unfolding category_of
zero_category straight flush fours threes pairs e = one straight flush (nat_lt 0 fours) (nat_lt 0 threes) (nat_lt 0 pairs) refl refl refl e
  where
    none : (n : ℕ) → nat_lt 0 n ≡ false → n ≡ 0
    none n h = grind arith

    one : (straight flush q t p : Bool) → nat_lt 0 fours ≡ q → nat_lt 0 threes ≡ t → nat_lt 0 pairs ≡ p → cond (straight && flush) 8 (cond q 7 (cond (t && p) 6 (cond flush 5 (cond straight 4 (cond t 3 pairs))))) ≡ 0 → (straight ≡ false) × (fours ≡ 0) × (threes ≡ 0) × (pairs ≡ 0)
    one true true q t p a b d e = absurd (omega arith)
    one true false true t p a b d e = absurd (omega arith)
    one true false false true true a b d e = absurd (omega arith)
    one true false false true false a b d e = absurd (omega arith)
    one true false false false p a b d e = absurd (omega arith)
    one false true true t p a b d e = absurd (omega arith)
    one false true false true true a b d e = absurd (omega arith)
    one false true false true false a b d e = absurd (omega arith)
    one false true false false p a b d e = absurd (omega arith)
    one false false true t p a b d e = absurd (omega arith)
    one false false false true true a b d e = absurd (omega arith)
    one false false false true false a b d e = absurd (omega arith)
    one false false false false p a b d e = (refl, none fours a, none threes b, e)

nothing : (xs : List ℕ) → length xs ≡ 0 → xs ≡ []
nothing [] e = refl
nothing (x ∷ xs) e = absurd (omega arith)

-- five falling ranks that aren't in a row are a seven, five, four, three and deuce or more
seven_or_more : (p : ℕ → Bool) (rs : List ℕ) → Falls p 13 rs → length rs ≡ 5 → is_run rs ≡ false → 480306 ≤ digits_from 5 (map (λ r. r + 2) rs)
seven_or_more p [] f h bent = absurd (omega arith)
seven_or_more p (a ∷ []) f h bent = absurd (omega arith)
seven_or_more p (a ∷ b ∷ []) f h bent = absurd (omega arith)
seven_or_more p (a ∷ b ∷ c ∷ []) f h bent = absurd (omega arith)
seven_or_more p (a ∷ b ∷ c ∷ d ∷ []) f h bent = absurd (omega arith)
seven_or_more p (a ∷ b ∷ c ∷ d ∷ e ∷ g ∷ rest) f h bent = absurd (omega arith)
seven_or_more p (a ∷ b ∷ c ∷ d ∷ e ∷ []) f h bent =
    let x : b < a = f.2.0 in
    let y : c < b = f.2.2.0 in
    let z : d < c = f.2.2.2.0 in
    let w : e < d = f.2.2.2.2.0 in
    elim (cases_lt 4 a) [
      | inl l ↦ omega arith
      | inr ge ↦
          let ea : a ≡ 4 = omega arith in
          let eb : b ≡ 3 = omega arith in
          let ec : c ≡ 2 = omega arith in
          let ed : d ≡ 1 = omega arith in
          let ee : e ≡ 0 = omega arith in
          let run : is_run (a ∷ b ∷ c ∷ d ∷ e ∷ []) ≡ true = rw (ea, eb, ec, ed, ee) refl in
          absurd (true≢false (sym run ∙ bent))
    ]

least_deuce : (five : List ℕ) → IsFive five → 480306 ≤ value_of (low_27 five)
unfolding value_of low_27 groups_counted ranks_counted
least_deuce five is = elim (cases_lt 0 (category_of (is_run (groups five)) (is_flush five) (group_count five 4) (group_count five 3) (group_count five 2))) [
  | inl l ↦ omega arith
  | inr ge ↦
      let z = zero_category (is_run (groups five)) (is_flush five) (group_count five 4) (group_count five 3) (group_count five 2) (omega arith) in
      let all : 4 * group_count five 4 + 3 * group_count five 3 + 2 * group_count five 2 + group_count five 1 ≡ 5 =
      sizes-all (count_of_rank five) 13 (λ k l. count-most five k is.0) ∙ total-all five (InDeck-rising 0 five (IsCardSet-rising five is.0)) ∙ is.1 in
      let single : groups five ≡ ranks_below (count_of_rank five) 1 13 = rw (nothing (ranks_counted (count_of_rank five) 4) z.1, nothing (ranks_counted (count_of_rank five) 3) z.2, nothing (ranks_counted (count_of_rank five) 2) z.3) refl in
      let bent : is_run (ranks_below (count_of_rank five) 1 13) ≡ false = sym (ap is_run single) ∙ z.0 in
      let more : 480306 ≤ digits_from 5 (map (λ r. r + 2) (ranks_below (count_of_rank five) 1 13)) = seven_or_more (λ r. count_of_rank five r == 1) (ranks_below (count_of_rank five) 1 13) (falls_counted (count_of_rank five) 1) (omega arith) bent in
      omega (arith, ap (λ l. digits_from 5 (map (λ r. r + 2) l)) single)
]

pub seven_low_is_best : SevenLowIsBest
unfolding value_of
seven_low_is_best a b p q are plain less =
    let number : value_of (low_27 a) ≡ 480306 = ap value_of (seven_low-list a p are plain) in
    not_less (value_of (low_27 b)) (value_of (low_27 a)) (omega (arith, least_deuce b q)) (value_of-order (low_27 b) (low_27 a) (low_27-IsHighList b (omega (arith, q.1))) (low_27-IsHighList a (omega (arith, p.1))) ∙ less)
