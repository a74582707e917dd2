-- What beats what: straights, flushes, threes of a kind and pairs.
use Rattle.std.proofs.Common.{◌≡◌, ◌≢◌, ℕ, suc, zero, ◌+◌, ◌≤◌, ◌<◌, ◌==◌, List, ◌∷◌, [], refl, ap, ◌∙◌, sym, arith, Bool, true, false, cond, length, length-append, inl, inr}
use Rattle.std.specs.Prelude.{nat_lt, ◌&&◌, ◌||◌, slice_index}
use Rattle.std.specs.Ordering.{nat_cmp, ordering_then}
use Rattle.std.specs.Cmp.{nat_cmp_is}
use Rattle.std.specs.Cmp.Lexicographic.{slice_cmp}
use Rattle.std.specs.declared.cmp.Ordering.TheVariants.{Equal, Greater}
use Rattle.std.proofs.lemmas.Bool.{cases_eq, cases_lt}
use mathlib.Core.Bool.{true≢false}
use Rattle.card_sets.specs.Cards.{suit_of, IsCardSet}
use Rattle.card_sets.specs.Rising.{IsCardSet-rising}
use Rattle.rank_high.specs.High.{high, pips, is_wheel, is_flush, is_straight, falls_by_one, groups, group_count, category, category_of, count_of_rank, ranks_below, ranks_counted}
use Rattle.rank_laws.specs.HighHands.{FlushBeatsStraight, ThreeBeatsTwoPair, SuitsDontMatter, WheelIsLowest, Beats}
use Rattle.rank_high.proofs.CallerLemmas.{groups_counted-same, ranks_counted-same, group_sizes, length-groups_counted}
use Rattle.rank_high.proofs.CallerLemmas.{next_falls, one_suit, pips_plain, pips_wheel}

-- a greater category beats whatever the ranks
greater_category : (a b : List ℕ) → category b < category a → Beats a b
unfolding high
greater_category a b h = ap (λ o. ordering_then o (slice_cmp nat_cmp (pips (groups a)) (pips (groups b)))) (sym (nat_cmp_is (category a) (category b) Greater h))

pub suits_lem : SuitsDontMatter
unfolding high
suits_lem a b same suits =
    rw (groups_counted-same (count_of_rank a) (count_of_rank b) same, ranks_counted-same (count_of_rank a) (count_of_rank b) 4 same, ranks_counted-same (count_of_rank a) (count_of_rank b) 3 same, ranks_counted-same (count_of_rank a) (count_of_rank b) 2 same, suits) refl

-- a straight has five groups
pub straight_length : (ranks : List ℕ) → is_straight ranks ≡ true → length ranks ≡ 5
unfolding is_straight
straight_length ranks h = elim (cases_eq (length ranks) 5) [
  | inl e ↦ e
  | inr ne ↦ (let f : (length ranks == 5) ≡ false = grind arith in absurd (true≢false (sym h ∙ (rw f refl))))
]

pub not_straight : (ranks : List ℕ) → (length ranks ≡ 5 → ⊥) → is_straight ranks ≡ false
unfolding is_straight
not_straight ranks h = let f : (length ranks == 5) ≡ false = grind arith in rw f refl

-- a straight has no two cards of one rank
pub straight_groups : (five : List ℕ) → length five ≡ 5 → is_straight (groups five) ≡ true → (group_count five 4 ≡ 0) × (group_count five 3 ≡ 0) × (group_count five 2 ≡ 0)
straight_groups five h s =
    let all : length (groups five) ≡ 5 = straight_length (groups five) s in
    let parts = length-groups_counted (count_of_rank five) in
    let few = group_sizes five in
    (omega arith, omega arith, omega arith)

pub category_of-straight : (flush : Bool) (fours threes pairs : ℕ) → fours ≡ 0 → threes ≡ 0 → category_of true flush fours threes pairs ≡ cond flush 8 4
unfolding category_of
category_of-straight true fours threes pairs a b = refl
category_of-straight false fours threes pairs a b = rw (a, b) refl

cond_ge : (b : Bool) (x y m : ℕ) → m ≤ x → m ≤ y → m ≤ cond b x y
cond_ge true x y m h i = h
cond_ge false x y m h i = i

category_of-flush : (straight : Bool) (fours threes pairs : ℕ) → 5 ≤ category_of straight true fours threes pairs
unfolding category_of
category_of-flush straight fours threes pairs =
    cond_ge (straight && true) _ _ 5 (omega arith) (cond_ge (nat_lt 0 fours) _ _ 5 (omega arith) (cond_ge (nat_lt 0 threes && nat_lt 0 pairs) _ _ 5 (omega arith) (omega arith)))

category_of-threes : (straight flush : Bool) (fours threes pairs : ℕ) → 0 < threes → 3 ≤ category_of straight flush fours threes pairs
unfolding category_of
category_of-threes straight flush fours threes pairs h =
    let t : nat_lt 0 threes ≡ true = grind arith in
    rw t (cond_ge (straight && flush) _ _ 3 (omega arith)
    (cond_ge (nat_lt 0 fours) _ _ 3 (omega arith)
    (cond_ge (true && nat_lt 0 pairs) _ _ 3 (omega arith)
    (cond_ge flush _ _ 3 (omega arith)
    (cond_ge straight _ _ 3 (omega arith) (omega arith))))))

pub category_of-pairs : (fours threes pairs : ℕ) → fours ≡ 0 → threes ≡ 0 → category_of false false fours threes pairs ≡ pairs
unfolding category_of
category_of-pairs fours threes pairs a b = rw (a, b) refl

pub flush_lem : FlushBeatsStraight
flush_lem a b fa fb flush straight plain =
    let none = straight_groups b fb.1 straight in
    let four : category b ≡ 4 = (rw (straight, plain) (category_of-straight false (group_count b 4) (group_count b 3) (group_count b 2) none.0 none.1)) in
    let five : 5 ≤ category a = (rw flush (category_of-flush (is_straight (groups a)) (group_count a 4) (group_count a 3) (group_count a 2))) in
    greater_category a b (omega arith)

-- a rank that is counted so is in the list
counted_in : (f : ℕ → ℕ) (size rank n : ℕ) → rank < n → f rank ≡ size → 0 < length (ranks_below f size n)
counted_in f size rank zero h e = absurd (omega arith)
counted_in f size rank (suc n) h e = elim (cases_eq rank n) [
  | inl same ↦
      let t : (f n == size) ≡ true = (rw (← same) (let u : (f rank == size) ≡ true = grind arith in u)) in
      rw t (omega arith)
  | inr ne ↦
      let ih : 0 < length (ranks_below f size n) = counted_in f size rank n (omega arith) e in
      omega (arith, length-append (cond (f n == size) (n ∷ []) []) (ranks_below f size n))
]

two_counted : (f : ℕ → ℕ) (size rank other n : ℕ) → rank < n → other < rank → f rank ≡ size → f other ≡ size → 2 ≤ length (ranks_below f size n)
two_counted f size rank other zero h i e g = absurd (omega arith)
two_counted f size rank other (suc n) h i e g = elim (cases_eq rank n) [
  | inl same ↦
      let t : (f n == size) ≡ true = (rw (← same) (let u : (f rank == size) ≡ true = grind arith in u)) in
      let one : 0 < length (ranks_below f size n) = counted_in f size other n (omega arith) g in
      rw t (omega arith)
  | inr ne ↦
      let ih : 2 ≤ length (ranks_below f size n) = two_counted f size rank other n (omega arith) i e g in
      omega (arith, length-append (cond (f n == size) (n ∷ []) []) (ranks_below f size n))
]

pub group_count-some : (five : List ℕ) (size rank : ℕ) → rank < 13 → count_of_rank five rank ≡ size → 0 < group_count five size
unfolding ranks_counted
group_count-some five size rank h e = counted_in (count_of_rank five) size rank 13 h e

pub group_count-two : (five : List ℕ) (size rank other : ℕ) → rank < 13 → other < 13 → rank ≢ other → count_of_rank five rank ≡ size → count_of_rank five other ≡ size → 2 ≤ group_count five size
unfolding ranks_counted
group_count-two five size rank other h i ne e g = elim (cases_lt other rank) [
  | inl l ↦ two_counted (count_of_rank five) size rank other 13 h l e g
  | inr ge ↦ two_counted (count_of_rank five) size other rank 13 i (omega arith) g e
]

-- no two cards of a flush are of one rank
pub flush_ranks : (five : List ℕ) (rank : ℕ) → IsCardSet five → is_flush five ≡ true → count_of_rank five rank ≤ 1
unfolding is_flush
flush_ranks five rank set flush = one_suit 0 (suit_of (slice_index five 0)) rank five (IsCardSet-rising five set) flush

pub not_flush : (five : List ℕ) (rank : ℕ) → IsCardSet five → 2 ≤ count_of_rank five rank → is_flush five ≡ false
not_flush five rank set h = elim (is_flush five) as (λ b. is_flush five ≡ b → b ≡ false) [
  | true ↦ λ flush. absurd (omega (arith, flush_ranks five rank set flush))
  | false ↦ λ flush. refl
] refl

pub three_lem : ThreeBeatsTwoPair
three_lem a b three pair other fa fb has_three has_pair has_other ne =
    let threes : 0 < group_count a 3 = group_count-some a 3 three has_three.0 has_three.1 in
    let pairs : 2 ≤ group_count b 2 = group_count-two b 2 pair other has_pair.0 has_other.0 ne has_pair.1 has_other.1 in
    let few = group_sizes b in
    let parts = length-groups_counted (count_of_rank b) in
    let plain : is_flush b ≡ false = not_flush b pair fb.0 (omega arith) in
    let bent : is_straight (groups b) ≡ false = not_straight (groups b) (λ e. omega arith) in
    let two : category b ≡ group_count b 2 = (rw (bent, plain) (category_of-pairs (group_count b 4) (group_count b 3) (group_count b 2) (omega arith) (omega arith))) in
    let most : 3 ≤ category a = category_of-threes (is_straight (groups a)) (is_flush a) (group_count a 4) (group_count a 3) (group_count a 2) threes in
    greater_category a b (omega arith)

-- the first rank decides between two of one category
greater_first : (a b : List ℕ) (p q : ℕ) (ps qs : List ℕ) → category a ≡ category b → pips (groups a) ≡ p ∷ ps → pips (groups b) ≡ q ∷ qs → q < p → Beats a b
unfolding high
greater_first a b p q ps qs same x y h =
    ap (λ o. ordering_then o (slice_cmp nat_cmp (pips (groups a)) (pips (groups b)))) (sym (nat_cmp_is (category a) (category b) Equal same))
    ∙ ap (λ xs. slice_cmp nat_cmp xs (pips (groups b))) x ∙ ap (λ ys. slice_cmp nat_cmp (p ∷ ps) ys) y
    ∙ ap (λ o. ordering_then o (slice_cmp nat_cmp ps qs)) (sym (nat_cmp_is p q Greater h))

either : (x y : Bool) → (x || y) ≡ true → y ≡ false → x ≡ true
either true y h f = refl
either false y h f = absurd (true≢false (sym h ∙ f))

-- the highest of five ranks in a row
highest : (a b c d e : ℕ) → falls_by_one (a ∷ b ∷ c ∷ d ∷ e ∷ []) ≡ true → 4 ≤ a
highest a b c d e h =
    let one = next_falls a b (c ∷ d ∷ e ∷ []) h in
    let two = next_falls b c (d ∷ e ∷ []) one.1 in
    let three = next_falls c d (e ∷ []) two.1 in
    let four = next_falls d e [] three.1 in
    omega arith

pub straight_falls : (a b c d e : ℕ) → is_straight (a ∷ b ∷ c ∷ d ∷ e ∷ []) ≡ true → is_wheel (a ∷ b ∷ c ∷ d ∷ e ∷ []) ≡ false → falls_by_one (a ∷ b ∷ c ∷ d ∷ e ∷ []) ≡ true
unfolding is_straight
straight_falls a b c d e s w = either (falls_by_one (a ∷ b ∷ c ∷ d ∷ e ∷ [])) (is_wheel (a ∷ b ∷ c ∷ d ∷ e ∷ [])) s w

-- the highest rank of a straight other than five to ace counts six or more
straight_pips : (ranks : List ℕ) → length ranks ≡ 5 → is_straight ranks ≡ true → is_wheel ranks ≡ false → (p : ℕ) × (ps : List ℕ) × (pips ranks ≡ p ∷ ps) × (6 ≤ p)
straight_pips [] h s w = absurd (omega arith)
straight_pips (a ∷ []) h s w = absurd (omega arith)
straight_pips (a ∷ b ∷ []) h s w = absurd (omega arith)
straight_pips (a ∷ b ∷ c ∷ []) h s w = absurd (omega arith)
straight_pips (a ∷ b ∷ c ∷ d ∷ []) h s w = absurd (omega arith)
straight_pips (a ∷ b ∷ c ∷ d ∷ e ∷ []) h s w =
    let high_enough : 4 ≤ a = highest a b c d e (straight_falls a b c d e s w) in
    (a + 2, (b + 2) ∷ (c + 2) ∷ (d + 2) ∷ (e + 2) ∷ [], pips_plain (a ∷ b ∷ c ∷ d ∷ e ∷ []) w, omega arith)
straight_pips (a ∷ b ∷ c ∷ d ∷ e ∷ f ∷ rest) h s w = absurd (omega arith)

-- five to ace is a straight
pub wheel_straight : (ranks : List ℕ) → is_wheel ranks ≡ true → is_straight ranks ≡ true
unfolding is_straight
wheel_straight [] w = absurd (true≢false (sym w))
wheel_straight (a ∷ []) w = absurd (true≢false (sym w))
wheel_straight (a ∷ b ∷ []) w = absurd (true≢false (sym w))
wheel_straight (a ∷ b ∷ c ∷ []) w = absurd (true≢false (sym w))
wheel_straight (a ∷ b ∷ c ∷ d ∷ []) w = absurd (true≢false (sym w))
wheel_straight (a ∷ b ∷ c ∷ d ∷ e ∷ []) w = or_true (falls_by_one (a ∷ b ∷ c ∷ d ∷ e ∷ [])) (is_wheel (a ∷ b ∷ c ∷ d ∷ e ∷ [])) w
  where
    or_true : (x y : Bool) → y ≡ true → (x || y) ≡ true
    or_true true y h = refl
    or_true false y h = h
wheel_straight (a ∷ b ∷ c ∷ d ∷ e ∷ f ∷ rest) w = absurd (true≢false (sym w))

pub category-straight : (five : List ℕ) → length five ≡ 5 → is_straight (groups five) ≡ true → category five ≡ cond (is_flush five) 8 4
category-straight five h s =
    let none = straight_groups five h s in
    (rw s (category_of-straight (is_flush five) (group_count five 4) (group_count five 3) (group_count five 2) none.0 none.1))

pub wheel_lem : WheelIsLowest
wheel_lem a b fa fb straight other wheel suits =
    let top = straight_pips (groups a) (straight_length (groups a) straight) straight other in
    let same : category a ≡ category b = category-straight a fa.1 straight ∙ ap (λ f. cond f 8 4) suits ∙ sym (category-straight b fb.1 (wheel_straight (groups b) wheel)) in
    greater_first a b top.0 5 top.1 (4 ∷ 3 ∷ 2 ∷ 1 ∷ []) same top.2 (pips_wheel (groups b) wheel) (omega (arith, top.3))
