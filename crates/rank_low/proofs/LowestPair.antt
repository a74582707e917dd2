-- The lowest pair and the three other ranks are the best ace-to-five low of cards of four ranks.
use Rattle.std.proofs.Common.{◌≡◌, ℕ, suc, zero, ◌+◌, ◌*◌, ◌^◌, ◌≤◌, ◌<◌, ◌==◌, List, ◌++◌, ◌∷◌, [], refl, ap, ◌∙◌, sym, arith, Bool, true, false, length, inl, inr, map, ◌⊎◌, Some}
use Rattle.std.specs.Prelude.{◌&&◌, ◌||◌, not, nat_lt, slice_index_or}
use Rattle.std.specs.Option.{option_map}
use Rattle.std.proofs.lemmas.Bool.{cases_eq, cases_lt, eqb-true, and_parts}
use Rattle.card_sets.specs.Cards.{IsCardSet, has_card}
use Rattle.card_sets.specs.Choose.{choose}
use Rattle.card_sets.specs.Rising.{IsCardSet-rising}
use Rattle.rank_high.specs.High.{digits_from, groups_counted, ranks_counted, count_of_rank}
use Rattle.rank_high.specs.ByRanks.{falling, held, except}
use Rattle.card_sets.proofs.CallerLemmas.{greatest, IsPart, greatest_most, greatest_least, part_of_image, image_of_part}
use Rattle.rank_high.proofs.CallerLemmas.{total-same, ranks_counted-same, length-groups_counted, Falls, Falls-falling, Falls-wider, falling-same, first_less, Allowed, pick, pick-part, picked, weights, weights-total, weights-listed, weights-which, total-all, InDeck-part, count-part, falls_counted}
use Rattle.rank_low.specs.Low.{low_a5, low_groups, count_of_low, ace_number, ace_low, best_low}
use Rattle.rank_low.specs.Lowest.{IsPairAndThree, IsThreeOthers}
use Rattle.rank_low.proofs.LowCounts.{length-map_low, InDeck-low}
use Rattle.rank_low.proofs.AceShapes.{FewOfEach, IsSizes, sizes_of, sizes_by, five_sizes, fours, threes, pairs, singles, number-by}
use Rattle.rank_low.proofs.TurnedNumbers.{turned, from_turned}
use Rattle.rank_low.proofs.LowestFive.{five_turned, part-FewOfEach, all_of, low_digits-lt, groups-fall}
use Rattle.rank_low.proofs.BestLow.{with_taken-AreAceLists}
use Rattle.rank_low.proofs.BestFive.{map_map, length-map_low_lists, some-choice}

first_of : List ℕ → ℕ
first_of [] = 0
first_of (x ∷ xs) = x

second_of : List ℕ → ℕ
second_of [] = 0
second_of (x ∷ xs) = first_of xs

-- a pair and three other ranks
record IsPairShape (q t p o : ℕ) (s : IsSizes (sizes_of q t p o)) : Type 0 where
  no_four : q ≡ 0
  no_three : t ≡ 0
  one_pair : p ≡ 1
  others : o ≡ 3
  first : s.first ≡ 2
  second : s.second ≡ 1

-- the sizes of five cards with a pair: two, and then one, or greater ones
paired : (q t p o : ℕ) → 4 * q + 3 * t + 2 * p + o ≡ 5 → 0 < q + t + p → (s : IsSizes (sizes_of q t p o)) → (34 ≤ s.first * 16 + s.second) ⊎ IsPairShape q t p o s
unfolding first_of second_of
paired (suc q) t p o e some s = (let f : 4 ≡ s.first = ap first_of s.list in inl (omega arith))
paired zero (suc t) p o e some s = (let f : 3 ≡ s.first = ap first_of s.list in inl (omega arith))
paired zero zero (suc (suc p)) o e some s = (let f : 2 ≡ s.first = ap first_of s.list in let g : 2 ≡ s.second = ap second_of s.list in inl (omega arith))
paired zero zero (suc zero) zero e some s = absurd (omega arith)
paired zero zero (suc zero) (suc o) e some s = (let f : 2 ≡ s.first = ap first_of s.list in let g : 1 ≡ s.second = ap second_of s.list in inr (record { no_four = refl; no_three = refl; one_pair = refl; others = omega arith; first = sym f; second = sym g }))
paired zero zero zero o e some s = absurd (omega arith)

is_except : (pair : ℕ) (p : ℕ → Bool) (r : ℕ) → (r ≡ pair → ⊥) → p r ≡ true → except pair p r ≡ true
is_except pair p r ne h = let f : (r == pair) ≡ false = grind arith in rw (f, h) refl

held-yes : (f : ℕ → ℕ) (r : ℕ) → 0 < f r → held f 0 r ≡ true
held-yes f r h = grind arith

held-two : (f : ℕ → ℕ) (r : ℕ) → 2 ≤ f r → held f 1 r ≡ true
held-two f r h = grind arith

-- no pair and three other ranks of the cards have a smaller number
pair-least : (f g : ℕ → ℕ) (v : ℕ) (i : IsPairAndThree f v) (xs ys : List ℕ) → length xs ≡ 1 → length ys ≡ 3 → ((r : ℕ) → g r ≤ f r) → Falls (λ r. g r == 2) 13 xs → Falls (λ r. g r == 1) 13 ys
    → v ≤ digits_from 5 (map (λ r. r + 1) (xs ++ ys))
pair-least f g v i [] ys e d most a b = absurd (omega arith)
pair-least f g v i (x ∷ z ∷ xs) ys e d most a b = absurd (omega arith)
pair-least f g v i (x ∷ []) ys e d most a b =
    let at : g x ≡ 2 = eqb-true (g x) 2 a.1 in
    let two : 2 ≤ f x = omega (arith, most x) in
    elim (cases_lt x i.pair) [
      | inl l ↦ absurd (omega (arith, i.lowest x l))
      | inr ge ↦ elim (cases_eq x i.pair) [
        | inl same ↦
            let falls : Falls (except i.pair (held f 0)) 13 ys = Falls-wider (λ r. g r == 1) (except i.pair (held f 0)) 13 13 ys (λ r l h.
            let one : g r ≡ 1 = eqb-true (g r) 1 h in
            is_except i.pair (held f 0) r (λ same_rank. let again : g r ≡ g x = ap g (same_rank ∙ sym same) in omega arith) (held-yes f r (omega (arith, most r)))) (omega arith) b in
            let all : ys ≡ falling (except i.pair (held f 0)) 13 = (all_of (except i.pair (held f 0)) 13 ys falls).1 (d ∙ sym i.others) in
            let digits : digits_from 4 (map (λ r. r + 1) ys) ≡ digits_from 4 (map (λ r. r + 1) (falling (except i.pair (held f 0)) 13)) = ap (λ l. digits_from 4 (map (λ r. r + 1) l)) all in
            omega (arith, i.number)
        | inr ne ↦
            let low : digits_from 4 (map (λ r. r + 1) (falling (except i.pair (held f 0)) 13)) < 16 ^ 4 = low_digits-lt (except i.pair (held f 0)) 13 4 (falling (except i.pair (held f 0)) 13) (omega arith) (Falls-falling (except i.pair (held f 0)) 13) in
            let less = first_less (16 ^ 4) (i.pair + 1) (x + 1) (digits_from 4 (map (λ r. r + 1) (falling (except i.pair (held f 0)) 13))) (digits_from 4 (map (λ r. r + 1) ys)) (omega arith) low in
            omega (arith, i.number)
      ]
    ]

nothing : (xs : List ℕ) → length xs ≡ 0 → xs ≡ []
nothing [] e = refl
nothing (x ∷ xs) e = absurd (omega arith)

pair-groups : (part : List ℕ) → fours part ≡ 0 → threes part ≡ 0 → low_groups part ≡ ranks_counted (count_of_low part) 2 ++ ranks_counted (count_of_low part) 1
unfolding groups_counted
pair-groups part q t = rw (nothing (ranks_counted (count_of_low part) 4) q, nothing (ranks_counted (count_of_low part) 3) t) refl

counted-falls : (f : ℕ → ℕ) (size : ℕ) → Falls (λ r. f r == size) 13 (ranks_counted f size)
unfolding ranks_counted
counted-falls f size = falls_counted f size

pub four-small : (f : ℕ → ℕ) (v : ℕ) → IsPairAndThree f v → v < 1048576
four-small f v i =
    let low : digits_from 4 (map (λ r. r + 1) (falling (except i.pair (held f 0)) 13)) < 16 ^ 4 = low_digits-lt (except i.pair (held f 0)) 13 4 (falling (except i.pair (held f 0)) 13) (omega arith) (Falls-falling (except i.pair (held f 0)) 13) in
    omega (arith, i.number, i.below)

four-least : (cards part : List ℕ) (v : ℕ) → IsCardSet cards → length (falling (held (count_of_low cards) 0) 13) < 5 → IsPairAndThree (count_of_low cards) v → length part ≡ 5 → IsPart part cards → 34603008 + v ≤ ace_number (low_a5 part)
four-least cards part v set short i five p =
    let few : FewOfEach part = part-FewOfEach part cards set p in
    let s = sizes_by part five few in
    let all = five_sizes part five few in
    let groups = length-groups_counted (count_of_low part) in
    let small = four-small (count_of_low cards) v i in
    let some : 0 < fours part + threes part + pairs part = elim (cases_lt 0 (fours part + threes part + pairs part)) [
      | inl l ↦ l
      | inr ge ↦ (let five_groups : length (low_groups part) ≡ 5 = omega arith in absurd (omega (arith, (all_of (held (count_of_low cards) 0) 13 (low_groups part) (groups-fall part cards p five few five_groups)).0)))
    ] in
    elim (paired (fours part) (threes part) (pairs part) (singles part) all some s) [
      | inl greater ↦ omega (arith, number-by part five s)
      | inr shape ↦
          let most : (r : ℕ) → count_of_low part r ≤ count_of_low cards r = λ r. count-part (map ace_low part) (map ace_low cards) r (image_of_part ace_low part cards p) in
          let least = pair-least (count_of_low cards) (count_of_low part) v i (ranks_counted (count_of_low part) 2) (ranks_counted (count_of_low part) 1) shape.one_pair shape.others most (counted-falls (count_of_low part) 2) (counted-falls (count_of_low part) 1) in
          let digits : digits_from 5 (map (λ r. r + 1) (low_groups part)) ≡ digits_from 5 (map (λ r. r + 1) (ranks_counted (count_of_low part) 2 ++ ranks_counted (count_of_low part) 1)) = ap (λ l. digits_from 5 (map (λ r. r + 1) l)) (pair-groups part shape.no_four shape.no_three) in
          omega (arith, number-by part five s, shape.first, shape.second)
    ]

-- some five of the cards have the ranks of a shape that the counts allow
record IsShaped (cards q t p o : List ℕ) : Type 0 where
  part : List ℕ
  inside : IsPart part cards
  five : length part ≡ 5
  fours : ranks_counted (count_of_low part) 4 ≡ q
  threes : ranks_counted (count_of_low part) 3 ≡ t
  pairs : ranks_counted (count_of_low part) 2 ≡ p
  singles : ranks_counted (count_of_low part) 1 ≡ o

shaped : (cards q t p o : List ℕ) → Allowed (count_of_low cards) q t p o → IsShaped cards q t p o
unfolding ranks_counted
shaped cards q t p o a =
    let part : List ℕ = pick (weights q t p o) (map ace_low cards) in
    let inside : IsPart part (map ace_low cards) = pick-part (weights q t p o) (map ace_low cards) in
    let counts : (r : ℕ) → count_of_rank part r ≡ weights q t p o r = picked (map ace_low cards) q t p o a in
    let long : length part ≡ 5 = sym (total-all part (InDeck-part part (map ace_low cards) inside (InDeck-low cards))) ∙ total-same (count_of_rank part) (weights q t p o) 13 counts ∙ weights-total (count_of_low cards) q t p o a in
    let which_of = weights-which (count_of_low cards) q t p o a in
    let back = part_of_image ace_low part cards inside in
    let same : (size : ℕ) → ranks_counted (count_of_low back.0) size ≡ ranks_counted (weights q t p o) size = λ size. ap (λ l. ranks_counted (count_of_rank l) size) back.2 ∙ ranks_counted-same (count_of_rank part) (weights q t p o) size (λ k l. counts k) in
    record {
      part = back.0;
      inside = back.1;
      five = sym (length-map_low back.0) ∙ ap length back.2 ∙ long;
      fours = same 4 ∙ weights-listed (count_of_low cards) (weights q t p o) 4 3 q a.fours (λ r e. (which_of r).0 e);
      threes = same 3 ∙ weights-listed (count_of_low cards) (weights q t p o) 3 2 t a.threes (λ r e. (which_of r).1 e);
      pairs = same 2 ∙ weights-listed (count_of_low cards) (weights q t p o) 2 1 p a.pairs (λ r e. (which_of r).2 e);
      singles = same 1 ∙ weights-listed (count_of_low cards) (weights q t p o) 1 0 o a.ones (λ r e. (which_of r).3 e);
    }

other_rank : (pair : ℕ) (p : ℕ → Bool) (r : ℕ) → except pair p r ≡ true → ((r == pair) ≡ false) × (p r ≡ true)
other_rank pair p r h = let two = and_parts (not (r == pair)) (p r) h in (flip (r == pair) two.0, two.1)
  where
    flip : (b : Bool) → not b ≡ true → b ≡ false
    flip true e = sym e
    flip false e = refl

not_among : (pair n : ℕ) (p : ℕ → Bool) (ls : List ℕ) → Falls (except pair p) n ls → has_card ls pair ≡ false
not_among pair n p [] f = refl
not_among pair n p (x ∷ ls) f = rw ((other_rank pair p x f.1).0) (not_among pair x p ls f.2)

or_right : (a b : Bool) → b ≡ true → (a || b) ≡ true
or_right true b h = refl
or_right false b h = h

singles-fall : (f : ℕ → ℕ) (pair n : ℕ) (all ls : List ℕ) → ((r : ℕ) → has_card ls r ≡ true → has_card all r ≡ true) → Falls (except pair (held f 0)) n ls → Falls (λ r. (weights [] [] (pair ∷ []) all r == 1) && held f 0 r) n ls
singles-fall f pair n all [] within fall = tt
singles-fall f pair n all (x ∷ ls) within fall =
    let here : has_card (x ∷ ls) x ≡ true = (let t : (x == x) ≡ true = grind arith in rw t refl) in
    let member : has_card all x ≡ true = within x here in
    let other = other_rank pair (held f 0) x fall.1 in
    let away : (pair == x) ≡ false = (let g : (x == pair) ≡ false = other.0 in grind arith) in
    (fall.0, (let one : weights [] [] (pair ∷ []) all x ≡ 1 = rw (member, away) refl in rw (one, other.1) refl), singles-fall f pair x all ls (λ r h. within r (or_right (x == r) (has_card ls r) h)) fall.2)

pair-allowed : (f : ℕ → ℕ) (v : ℕ) (i : IsPairAndThree f v) → Allowed f [] [] (i.pair ∷ []) (falling (except i.pair (held f 0)) 13)
pair-allowed f v i =
    let fall : Falls (except i.pair (held f 0)) 13 (falling (except i.pair (held f 0)) 13) = Falls-falling (except i.pair (held f 0)) 13 in
    let here : (i.pair == i.pair) ≡ true = grind arith in
    let none : has_card (falling (except i.pair (held f 0)) 13) i.pair ≡ false = not_among i.pair 13 (held f 0) (falling (except i.pair (held f 0)) 13) fall in
    let two : weights [] [] (i.pair ∷ []) (falling (except i.pair (held f 0)) 13) i.pair ≡ 2 = rw (here, none) refl in
    record {
      fours = tt;
      threes = tt;
      pairs = (i.below, rw (two, held-two f i.pair i.two) refl, tt);
      ones = singles-fall f i.pair 13 (falling (except i.pair (held f 0)) 13) (falling (except i.pair (held f 0)) 13) (λ r h. h) fall;
      five = omega (arith, i.others);
    }

-- a pair and three others aren't greater
not_greater : (q t p o : ℕ) → q ≡ 0 → t ≡ 0 → p ≡ 1 → o ≡ 3 → (s : IsSizes (sizes_of q t p o)) → 34 ≤ s.first * 16 + s.second → ⊥
unfolding first_of second_of
not_greater (suc q) t p o a b c d s h = absurd (omega arith)
not_greater zero (suc t) p o a b c d s h = absurd (omega arith)
not_greater zero zero zero o a b c d s h = absurd (omega arith)
not_greater zero zero (suc (suc p)) o a b c d s h = absurd (omega arith)
not_greater zero zero (suc zero) zero a b c d s h = absurd (omega arith)
not_greater zero zero (suc zero) (suc o) a b c d s h = (let f : 2 ≡ s.first = ap first_of s.list in let g : 1 ≡ s.second = ap second_of s.list in omega arith)

-- the number of the best ace-to-five low of cards of four ranks
four-number : (cards : List ℕ) (v : ℕ) → IsCardSet cards → length (falling (held (count_of_low cards) 0) 13) < 5 → IsPairAndThree (count_of_low cards) v → greatest (map five_turned (choose 5 cards)) ≡ turned (34603008 + v)
four-number cards v set short i =
    let small = four-small (count_of_low cards) v i in
    let most : greatest (map five_turned (choose 5 cards)) ≤ turned (34603008 + v) = greatest_most 5 cards five_turned (turned (34603008 + v)) (λ part five p. omega (arith, four-least cards part v set short i five p)) in
    let r = shaped cards [] [] (i.pair ∷ []) (falling (except i.pair (held (count_of_low cards) 0)) 13) (pair-allowed (count_of_low cards) v i) in
    let at : five_turned r.part ≤ greatest (map five_turned (choose 5 cards)) = greatest_least 5 cards five_turned r.part r.five r.inside in
    let few : FewOfEach r.part = part-FewOfEach r.part cards set r.inside in
    let s = sizes_by r.part r.five few in
    let q : fours r.part ≡ 0 = ap length r.fours in
    let t : threes r.part ≡ 0 = ap length r.threes in
    let p : pairs r.part ≡ 1 = ap length r.pairs in
    let groups : low_groups r.part ≡ i.pair ∷ falling (except i.pair (held (count_of_low cards) 0)) 13 = pair-groups r.part q t ∙ ap (λ l. l ++ ranks_counted (count_of_low r.part) 1) r.pairs ∙ ap (λ l. i.pair ∷ l) r.singles in
    let digits : digits_from 5 (map (λ r. r + 1) (low_groups r.part)) ≡ v = ap (λ l. digits_from 5 (map (λ r. r + 1) l)) groups ∙ sym i.number in
    let is : ace_number (low_a5 r.part) ≡ 34603008 + v = elim (paired (fours r.part) (threes r.part) (pairs r.part) (singles r.part) (five_sizes r.part r.five few) (omega arith) s) [
      | inl greater ↦ absurd (let o : singles r.part ≡ 3 = ap length r.singles ∙ i.others in not_greater (fours r.part) (threes r.part) (pairs r.part) (singles r.part) q t p o s greater)
      | inr shape ↦ omega (arith, number-by r.part r.five s, shape.first, shape.second)
    ] in
    omega arith

-- the best low of cards of four ranks
pub ace_four-is : (cards : List ℕ) (v : ℕ) → IsCardSet cards → 5 ≤ length cards → length (falling (held (count_of_low cards) 0) 13) < 5 → IsPairAndThree (count_of_low cards) v → Some (34603008 + v) ≡ option_map ace_number (best_low cards)
unfolding best_low
ace_four-is cards v set h short i =
    let small = four-small (count_of_low cards) v i in
    from_turned (map low_a5 (choose 5 cards)) (34603008 + v) (with_taken-AreAceLists [] 5 cards (IsCardSet-rising cards set) refl) (omega (arith, length-map_low_lists (choose 5 cards), some-choice 5 cards h)) (omega arith)
    (sym (ap greatest (map_map (choose 5 cards)) ∙ four-number cards v set short i))

-- counts that are the same give the same pair and three
pub pair-same : (f g : ℕ → ℕ) (v : ℕ) → ((k : ℕ) → k < 13 → f k ≡ g k) → IsPairAndThree f v → IsPairAndThree g v
pair-same f g v same i =
    let e : falling (except i.pair (held f 0)) 13 ≡ falling (except i.pair (held g 0)) 13 = falling-same (except i.pair (held f 0)) (except i.pair (held g 0)) 13 (λ r l. ap (λ n. not (r == i.pair) && nat_lt 0 n) (same r l)) in
    record {
      pair = i.pair;
      below = i.below;
      two = omega (arith, i.two, same i.pair i.below);
      lowest = λ rank l. omega (arith, i.lowest rank l, same rank (omega (arith, i.below)));
      others = sym (ap length e) ∙ i.others;
      number = i.number ∙ ap (λ l. (i.pair + 1) * 16 ^ 4 + digits_from 4 (map (λ r. r + 1) l)) e;
    }

-- three digits, each a place up
pub three-digits : (ds : List ℕ) → length ds ≡ 3 → digits_from 4 ds ≡ 16 * digits_from 3 ds
three-digits [] e = absurd (omega arith)
three-digits (a ∷ []) e = absurd (omega arith)
three-digits (a ∷ b ∷ []) e = absurd (omega arith)
three-digits (a ∷ b ∷ c ∷ []) e = omega arith
three-digits (a ∷ b ∷ c ∷ d ∷ ds) e = absurd (omega arith)

-- the powers of 16
abbrev table : List ℕ
table = 1 ∷ 16 ∷ 256 ∷ 4096 ∷ 65536 ∷ 1048576 ∷ []

falling-more : (p : ℕ → Bool) (n : ℕ) → p n ≡ true → falling p (n + 1) ≡ n ∷ falling p n
falling-more p n h = let e : n + 1 ≡ suc n = omega arith in rw (e, h) refl

falling-as : (p : ℕ → Bool) (n : ℕ) → p n ≡ false → falling p (n + 1) ≡ falling p n
falling-as p n h = let e : n + 1 ≡ suc n = omega arith in rw (e, h) refl

with_digit : (taken rank number d : ℕ) → taken ≤ 2 → number ≡ 16 * d → number + (rank + 1) * slice_index_or table (taken + 1) 0 ≡ 16 * ((rank + 1) * 16 ^ taken + d)
with_digit zero rank number d h e = omega arith
with_digit (suc zero) rank number d h e = omega arith
with_digit (suc (suc zero)) rank number d h e = omega arith
with_digit (suc (suc (suc n))) rank number d h e = absurd (omega arith)

digit-small : (taken rank number : ℕ) → taken ≤ 2 → rank < 13 → number < 16 ^ (taken + 1) → number + (rank + 1) * slice_index_or table (taken + 1) 0 < 16 ^ (taken + 1 + 1)
digit-small zero rank number h l s = omega arith
digit-small (suc zero) rank number h l s = omega arith
digit-small (suc (suc zero)) rank number h l s = omega arith
digit-small (suc (suc (suc n))) rank number h l s = absurd (omega arith)

-- the ranks but for a pair's, up to a rank
abbrev pub others_below : (ℕ → ℕ) → ℕ → ℕ → List ℕ
others_below f pair rank = falling (except pair (held f 0)) rank

-- one rank more
pub others_more : (f : ℕ → ℕ) (pair rank taken number at from : ℕ) → rank < 13 → at ≡ rank → from ≡ rank → (rank ≡ pair → ⊥) → 0 < f at → taken ≤ 2
    → taken ≡ length (others_below f pair rank) → number ≡ 16 * digits_from taken (map (λ r. r + 1) (others_below f pair rank)) → number < 16 ^ (taken + 1)
    → (taken + 1 ≡ length (others_below f pair (rank + 1))) × (number + (from + 1) * slice_index_or table (taken + 1) 0 ≡ 16 * digits_from (taken + 1) (map (λ r. r + 1) (others_below f pair (rank + 1)))) × (number + (from + 1) * slice_index_or table (taken + 1) 0 < 16 ^ (taken + 1 + 1))
others_more f pair rank taken number at from l d e ne some few so_far whole small =
    let more : others_below f pair (rank + 1) ≡ rank ∷ others_below f pair rank = falling-more (except pair (held f 0)) rank (is_except pair (held f 0) rank ne (held-yes f rank (let same : f at ≡ f rank = ap f d in omega arith))) in
    let step : taken + 1 ≡ suc taken = omega arith in
    let digits : digits_from (taken + 1) (map (λ r. r + 1) (others_below f pair (rank + 1))) ≡ (rank + 1) * 16 ^ taken + digits_from taken (map (λ r. r + 1) (others_below f pair rank)) =
    ap (λ l. digits_from (taken + 1) (map (λ r. r + 1) l)) more ∙ ap (λ k. digits_from k (map (λ r. r + 1) (rank ∷ others_below f pair rank))) step in (
      omega (arith, ap length more),
      ap (λ r. number + (r + 1) * slice_index_or table (taken + 1) 0) e ∙ with_digit taken rank number (digits_from taken (map (λ r. r + 1) (others_below f pair rank))) few whole ∙ ap (λ n. 16 * n) (sym digits),
      rw e (digit-small taken rank number few l small),
    )

-- no rank more
pub others_as : (f : ℕ → ℕ) (pair rank at : ℕ) → at ≡ rank → f at ≤ 0 → others_below f pair rank ≡ others_below f pair (rank + 1)
others_as f pair rank at d none = sym (falling-as (except pair (held f 0)) rank (without (rank == pair) (held f 0 rank) (let same : f at ≡ f rank = ap f d in let z : f rank ≡ 0 = omega arith in grind arith)))
  where
    without : (a b : Bool) → b ≡ false → (not a && b) ≡ false
    without true b h = refl
    without false b h = h

length-raised : (xs : List ℕ) → length (map (λ r. r + 1) xs) ≡ length xs
length-raised [] = refl
length-raised (x ∷ xs) = ap suc (length-raised xs)

-- all ranks
pub others_end : (f : ℕ → ℕ) (pair rank taken number : ℕ) → rank ≡ 13 → taken ≡ 3 → taken ≡ length (others_below f pair rank) → number ≡ 16 * digits_from taken (map (λ r. r + 1) (others_below f pair rank)) → IsThreeOthers f pair number
others_end f pair rank taken number e three so_far whole =
    let three_long : length (others_below f pair rank) ≡ 3 = sym so_far ∙ three in
    let digits : number ≡ digits_from 4 (map (λ r. r + 1) (others_below f pair rank)) =
    whole ∙ ap (λ k. 16 * digits_from k (map (λ r. r + 1) (others_below f pair rank))) three ∙ sym (three-digits (map (λ r. r + 1) (others_below f pair rank)) (length-raised (others_below f pair rank) ∙ three_long)) in
    (ap (λ n. length (others_below f pair n)) (sym e) ∙ three_long, digits ∙ ap (λ n. digits_from 4 (map (λ r. r + 1) (others_below f pair n))) e)

pub three-small : (f : ℕ → ℕ) (pair v : ℕ) → IsThreeOthers f pair v → v < 65536
three-small f pair v three =
    let low : digits_from 4 (map (λ r. r + 1) (falling (except pair (held f 0)) 13)) < 16 ^ 4 = low_digits-lt (except pair (held f 0)) 13 4 (falling (except pair (held f 0)) 13) (omega arith) (Falls-falling (except pair (held f 0)) 13) in
    omega (arith, three.1)
