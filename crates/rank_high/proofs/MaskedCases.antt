-- The exact cases, from sets of ranks as a body keeps them: each rank as its card of the first suit.
use Rattle.std.proofs.Common.{◌≡◌, ℕ, suc, zero, ◌+◌, ◌-◌, ◌*◌, ◌/◌, ◌%◌, ◌^◌, ◌≤◌, ◌<◌, ◌==◌, List, ◌++◌, ◌∷◌, [], refl, ap, ◌∙◌, sym, arith, Bool, true, false, cond, length, inl, inr, subst, append-nil, length-append}
use Rattle.std.specs.Prelude.{◌&&◌, not, nat_lt, slice_get, slice_index_or, Some, None, Option, MatchOption}
use Rattle.std.proofs.Math.Nat.{mul-le-mul_right, pow-le-pow_right}
use Rattle.std.proofs.lemmas.Bool.{cases_eq, cases_lt}
use mathlib.Core.Bool.{true≢false}
use Rattle.card_sets.specs.Cards.{IsCardSet, cards_where, cards_below, has_card, without_card, rank_of, cards_in_a_row, is_in_a_row}
use Rattle.card_sets.specs.Bits.{cards_where_same, has-cards_where, has_not}
use Rattle.rank_high.specs.High.{value_of, count_of_rank}
use Rattle.rank_high.specs.Parts.{best_plain}
use Rattle.rank_high.specs.ByRanks.{falling, ranks_where, first_suit, HasFirst, digits_of, held, except, run_at, NoFull, NoRun}
use Rattle.rank_high.proofs.FallingRanks.{Falls, Falls-falling, falling-same, falling-some, falling-first}
use Rattle.rank_high.proofs.ShapeCases.{no_full, no_three}
use Rattle.rank_high.proofs.ExactCases.{exact_four, exact_full, exact_run, exact_three, exact_two, exact_one, exact_none}

-- a test of ranks as a test of cards
abbrev pub on_first : (ℕ → Bool) → ℕ → Bool
on_first p k = (k % 4 == 0) && p (k / 4)

abbrev pub last_of : List ℕ → Option ℕ
last_of xs = slice_get xs (length xs - 1)

first_at : (p : ℕ → Bool) (r : ℕ) → on_first p (4 * r) ≡ p r
first_at p r =
    let z : 4 * r % 4 ≡ 0 = omega arith in
    let q : 4 * r / 4 ≡ r = omega arith in
    rw (z, q) refl

not_first : (p : ℕ → Bool) (r i : ℕ) → 0 < i → i < 4 → on_first p (4 * r + i) ≡ false
not_first p r i h l =
    let z : ((4 * r + i) % 4 == 0) ≡ false = (let n : 0 < (4 * r + i) % 4 = omega arith in grind arith) in
    rw z refl

-- four cards more are one rank more
rank_more : (p : ℕ → Bool) (n : ℕ) → cards_below (on_first p) (4 * suc n) ≡ cards_below (on_first p) (4 * n) ++ cond (p n) (4 * n ∷ []) []
rank_more p n =
    let whole : 4 * suc n ≡ suc (suc (suc (suc (4 * n)))) = omega arith in
    let a : on_first p (suc (4 * n)) ≡ false = one (suc (4 * n)) 1 (omega arith) (omega arith) (omega arith) in
    let b : on_first p (suc (suc (4 * n))) ≡ false = one (suc (suc (4 * n))) 2 (omega arith) (omega arith) (omega arith) in
    let c : on_first p (suc (suc (suc (4 * n)))) ≡ false = one (suc (suc (suc (4 * n)))) 3 (omega arith) (omega arith) (omega arith) in
    rw (whole, a, b, c, first_at p n) (append-nil _ ∙ append-nil _ ∙ append-nil _)
  where
    one : (k i : ℕ) → k ≡ 4 * n + i → 0 < i → i < 4 → on_first p k ≡ false
    one k i e h l = rw e (not_first p n i h l)

-- the last card is of the first rank of the falling list
last_first : (p : ℕ → Bool) (n x : ℕ) → Some x ≡ last_of (cards_below (on_first p) (4 * n)) → (rest : List ℕ) × (x ≡ 4 * rank_of x) × (falling p n ≡ rank_of x ∷ rest)
last_first p zero x e = cc
last_first p (suc n) x e = one (last_first p n x) (p n) refl (e ∙ ap last_of (rank_more p n))
  where
    pushed : (xs : List ℕ) (z : ℕ) → slice_get (xs ++ z ∷ []) (length (xs ++ z ∷ []) - 1) ≡ Some z
    pushed xs z = rw (at xs z) (found xs z)
      where
        at : (xs : List ℕ) (z : ℕ) → length (xs ++ z ∷ []) - 1 ≡ length xs
        at xs z = omega (arith, length-append xs (z ∷ []))

        found : (xs : List ℕ) (z : ℕ) → slice_get (xs ++ z ∷ []) (length xs) ≡ Some z
        found [] z = refl
        found (x ∷ xs) z = found xs z

    one : (Some x ≡ last_of (cards_below (on_first p) (4 * n)) → (rest : List ℕ) × (x ≡ 4 * rank_of x) × (falling p n ≡ rank_of x ∷ rest)) → (b : Bool) → p n ≡ b
        → Some x ≡ last_of (cards_below (on_first p) (4 * n) ++ cond b (4 * n ∷ []) []) → (rest : List ℕ) × (x ≡ 4 * rank_of x) × (cond b (n ∷ []) [] ++ falling p n ≡ rank_of x ∷ rest)
    one ih true t e =
        let same : Some x ≡ Some (4 * n) = e ∙ pushed (cards_below (on_first p) (4 * n)) (4 * n) in
        let is : x ≡ 4 * n = cc in
        let rank : n ≡ rank_of x = omega arith in
        (falling p n, omega arith, ap (λ r. r ∷ falling p n) rank)
    one ih false t e = ih (e ∙ ap last_of (append-nil (cards_below (on_first p) (4 * n))))

last_none : (p : ℕ → Bool) (n : ℕ) → None ≡ last_of (cards_below (on_first p) (4 * n)) → falling p n ≡ []
last_none p zero e = refl
last_none p (suc n) e = one (last_none p n) (p n) refl (e ∙ ap last_of (rank_more p n))
  where
    some : (xs : List ℕ) (z : ℕ) → None ≡ slice_get (xs ++ z ∷ []) (length (xs ++ z ∷ []) - 1) → ⊥
    some xs z e = never (e ∙ (let at : length (xs ++ z ∷ []) - 1 ≡ length xs = omega (arith, length-append xs (z ∷ [])) in rw at (found xs z)))
      where
        found : (xs : List ℕ) (z : ℕ) → slice_get (xs ++ z ∷ []) (length xs) ≡ Some z
        found [] z = refl
        found (x ∷ xs) z = found xs z

        never : None ≡ Some z → ⊥
        never e = cc

    one : (None ≡ last_of (cards_below (on_first p) (4 * n)) → falling p n ≡ []) → (b : Bool) → p n ≡ b
        → None ≡ last_of (cards_below (on_first p) (4 * n) ++ cond b (4 * n ∷ []) []) → cond b (n ∷ []) [] ++ falling p n ≡ []
    one ih true t e = absurd (some (cards_below (on_first p) (4 * n)) (4 * n) e)
    one ih false t e = ih (e ∙ ap last_of (append-nil (cards_below (on_first p) (4 * n))))

pub greatest_some : (ranks : List ℕ) (card : ℕ) → Some card ≡ slice_get ranks (length ranks - 1) → (test : ℕ → Bool) → ranks ≡ first_suit test → HasFirst test card
unfolding cards_where ranks_where
greatest_some ranks card e test same = last_first test 13 card (e ∙ ap last_of same)

pub greatest_none : (ranks : List ℕ) → None ≡ slice_get ranks (length ranks - 1) → (test : ℕ → Bool) → ranks ≡ first_suit test → ranks_where test ≡ []
unfolding cards_where ranks_where
greatest_none ranks e test same = last_none test 13 (e ∙ ap last_of same)

pub greatest_is : (ranks : List ℕ) (o : Option ℕ) → o ≡ slice_get ranks (length ranks - 1)
    → MatchOption o ((test : ℕ → Bool) → ranks ≡ first_suit test → ranks_where test ≡ []) (λ card. (test : ℕ → Bool) → ranks ≡ first_suit test → HasFirst test card)
greatest_is ranks None e = greatest_none ranks e
greatest_is ranks (Some card) e = greatest_some ranks card e

-- without its card a rank passes no more
pub without_rank : (ranks : List ℕ) (card : ℕ) (test : ℕ → Bool) → card ≡ 4 * rank_of card → ranks ≡ first_suit test → without_card ranks card ≡ first_suit (except (rank_of card) test)
without_rank ranks card test four same = ap (λ cards. without_card cards card) same ∙ cards_where_same _ _ each
  where
    each : (k : ℕ) → k < 52 → (not (k == card) && has_card (first_suit test) k) ≡ ((k % 4 == 0) && (not (k / 4 == rank_of card) && test (k / 4)))
    each k h = has (k % 4 == 0) refl
      where
        same_rank : (k % 4 == 0) ≡ true → (k == card) ≡ (k / 4 == rank_of card)
        same_rank t = elim (cases_eq k card) [
          | inl e ↦ (let a : (k == card) ≡ true = grind arith in let b : (k / 4 == rank_of card) ≡ true = (let q : k / 4 ≡ rank_of card = ap (λ n. n / 4) e in grind arith) in a ∙ sym b)
          | inr ne ↦
              let a : (k == card) ≡ false = grind arith in
              let z : k % 4 ≡ 0 = grind arith in
              elim (cases_eq (k / 4) (rank_of card)) [
                | inl e ↦ absurd (ne (let u : 4 * (k / 4) ≡ 4 * rank_of card = ap (λ n. 4 * n) e in omega (arith, u, four)))
                | inr other ↦ (let b : (k / 4 == rank_of card) ≡ false = grind arith in a ∙ sym b)
              ]
        ]

        nothing : (b : Bool) → (b && false) ≡ false
        nothing true = refl
        nothing false = refl

        has : (b : Bool) → (k % 4 == 0) ≡ b → (not (k == card) && has_card (first_suit test) k) ≡ ((k % 4 == 0) && (not (k / 4 == rank_of card) && test (k / 4)))
        has true t = rw (has-cards_where (on_first test) k h, t, same_rank t) refl
        has false t = rw (has-cards_where (on_first test) k h, t) (nothing (not (k == card)))

-- the ranks that pass but for the first
pub without_first : (p : ℕ → Bool) (n x : ℕ) (more : List ℕ) → falling p n ≡ x ∷ more → falling (except x p) n ≡ more
without_first p zero x more e = cc
without_first p (suc n) x more e = one (λ e. without_first p n x more e) (p n) refl e
  where
    apart : (x r : ℕ) → r < x → (r == x) ≡ false
    apart x r h = grind arith

    self : (x n : ℕ) → n ≡ x → (n == x) ≡ true
    self x n e = grind arith

    one : (falling p n ≡ x ∷ more → falling (except x p) n ≡ more) → (b : Bool) → p n ≡ b → cond b (n ∷ []) [] ++ falling p n ≡ x ∷ more → cond (except x p n) (n ∷ []) [] ++ falling (except x p) n ≡ more
    one ih true g e =
        let top : n ≡ x = cc in
        let rest : falling p n ≡ more = cc in
        let same : falling (except x p) n ≡ falling p n = falling-same (except x p) p n (λ r l. rw (apart x r (omega arith)) refl) in
        rw (self x n top) (same ∙ rest)
    one ih false g e = rw g (none_here (not (n == x)) (falling (except x p) n) ∙ ih e)
      where
        none_here : (b : Bool) (ls : List ℕ) → cond (b && false) (n ∷ []) [] ++ ls ≡ ls
        none_here true ls = refl
        none_here false ls = refl

pub where_without_first : (p : ℕ → Bool) (x : ℕ) (more : List ℕ) → ranks_where p ≡ x ∷ more → ranks_where (except x p) ≡ more
unfolding ranks_where
where_without_first p x more e = without_first p 13 x more e

-- where a straight of ranks that pass begins
abbrev pub runs : (ℕ → Bool) → ℕ → Bool
runs p t = nat_lt t 10 && run_at p t

has_rank : (p : ℕ → Bool) (r k : ℕ) → r < 13 → k ≡ 4 * r → has_card (first_suit p) k ≡ p r
has_rank p r k h e = has-cards_where (on_first p) k (omega arith) ∙ rw e (first_at p r)

turned : (a b c d e : Bool) → (a && b && c && d && e) ≡ (e && a && b && c && d)
turned a b c d true = right (a && b && c && d)
  where
    right : (x : Bool) → (x && true) ≡ x
    right true = refl
    right false = refl
turned a b c d false = right (a && b && c && d)
  where
    right : (x : Bool) → (x && false) ≡ false
    right true = refl
    right false = refl

-- five cards in a row of the first suit are five ranks in a row
pub in_a_row_runs : (ranks : List ℕ) (p : ℕ → Bool) → ranks ≡ first_suit p → cards_in_a_row ranks ≡ first_suit (runs p)
unfolding cards_where
in_a_row_runs ranks p same = ap cards_in_a_row same ∙ cards_where_same _ _ each
  where
    nothing : (b c : Bool) → (b && false && c) ≡ false
    nothing true c = refl
    nothing false c = refl

    of_rank : (t k : ℕ) → k ≡ 4 * t → t < 13 → is_in_a_row (first_suit p) k ≡ runs p t
    of_rank zero k e h =
        let z : nat_lt k 4 ≡ true = grind arith in
        rw (z, has_rank p 3 (k + 12) (omega arith) (omega arith), has_rank p 2 (k + 8) (omega arith) (omega arith), has_rank p 1 (k + 4) (omega arith) (omega arith), has_rank p 0 k (omega arith) (omega arith), has_rank p 12 (k + 48) (omega arith) (omega arith))
        (turned (p 3) (p 2) (p 1) (p 0) (p 12))
    of_rank (suc t) k e h =
        let z : nat_lt k 4 ≡ false = grind arith in
        elim (cases_lt (suc t) 10) [
          | inl l ↦
              let small : nat_lt (suc t) 10 ≡ true = grind arith in
              rw (z, small, has_rank p (t + 4) (k + 12) (omega arith) (omega arith), has_rank p (t + 3) (k + 8) (omega arith) (omega arith), has_rank p (t + 2) (k + 4) (omega arith) (omega arith), has_rank p (t + 1) k (omega arith) (omega arith), has_rank p t (k - 4) (omega arith) (omega arith)) refl
          | inr ge ↦
              let large : nat_lt (suc t) 10 ≡ false = grind arith in
              let out : has_card (first_suit p) (k + 12) ≡ false = has_not (on_first p) 52 (k + 12) (omega arith) in
              rw (large, out) refl
        ]

    each : (k : ℕ) → k < 52 → is_in_a_row (first_suit p) k ≡ ((k % 4 == 0) && runs p (k / 4))
    each k h = elim (cases_eq (k % 4) 0) [
      | inl e ↦ (let t : (k % 4 == 0) ≡ true = grind arith in rw t (of_rank (k / 4) k (omega arith) (omega arith)))
      | inr ne ↦
          let f : (k % 4 == 0) ≡ false = grind arith in
          let out : has_card (first_suit p) k ≡ false = has-cards_where (on_first p) k h ∙ rw f refl in
          rw (f, out) (nothing (has_card (first_suit p) (k + 12) && has_card (first_suit p) (k + 8) && has_card (first_suit p) (k + 4)) _)
    ]

pub at_none : (o : Option ℕ) (A : Type 0) (B : ℕ → Type 0) → o ≡ None → A → MatchOption o A B
at_none o A B e a = let P : Option ℕ → Type 0 = λ o. MatchOption o A B in subst P (sym e) a

below_ten : (s : ℕ) → s < 10 → nat_lt s 10 ≡ true
below_ten s h = grind arith

of_below_ten : (s : ℕ) → nat_lt s 10 ≡ true → s < 10
of_below_ten s h = grind arith

pub run_none : (f : ℕ → ℕ) → ranks_where (runs (held f 0)) ≡ [] → NoRun f
unfolding ranks_where
run_none f none s h r = falling-some (runs (held f 0)) 13 s (omega arith) (rw (below_ten s h, r) refl) none

pub four_is : (cards : List ℕ) (x rank digit : ℕ) (more : List ℕ) → IsCardSet cards → 5 ≤ length cards → ranks_where (held (count_of_rank cards) 3) ≡ x ∷ more → rank ≡ x
    → digit ≡ digits_of 1 (ranks_where (except x (held (count_of_rank cards) 0))) → 7340032 + (rank + 2) * 65536 + digit * 4096 ≡ value_of (best_plain cards)
unfolding ranks_where
four_is cards x rank digit more set five top r d = omega (arith, exact_four cards x more set five top, d)

pub full_is : (cards : List ℕ) (x y rank pair : ℕ) (more rest : List ℕ) → IsCardSet cards → ranks_where (held (count_of_rank cards) 3) ≡ [] → ranks_where (held (count_of_rank cards) 2) ≡ x ∷ more
    → ranks_where (except x (held (count_of_rank cards) 1)) ≡ y ∷ rest → rank ≡ x → pair ≡ y → 6291456 + (rank + 2) * 65536 + (pair + 2) * 4096 ≡ value_of (best_plain cards)
unfolding ranks_where
full_is cards x y rank pair more rest set lack top next r p = omega (arith, exact_full cards x y more rest set lack top next, ap (λ l. digits_of 1 l) next)

pub full_none : (cards : List ℕ) (x : ℕ) (more : List ℕ) → ranks_where (held (count_of_rank cards) 2) ≡ x ∷ more → ranks_where (except x (held (count_of_rank cards) 1)) ≡ [] → NoFull (count_of_rank cards)
unfolding ranks_where
full_none cards x more top none = no_full (count_of_rank cards) x more top none

pub three_none : (cards : List ℕ) → ranks_where (held (count_of_rank cards) 2) ≡ [] → NoFull (count_of_rank cards)
unfolding ranks_where
three_none cards none = no_three (count_of_rank cards) none

pub run_is : (cards : List ℕ) (t place : ℕ) (more : List ℕ) → IsCardSet cards → ranks_where (held (count_of_rank cards) 3) ≡ [] → NoFull (count_of_rank cards) → ranks_where (runs (held (count_of_rank cards) 0)) ≡ t ∷ more → place ≡ t
    → 4539169 + place * 69905 ≡ value_of (best_plain cards)
unfolding ranks_where
run_is cards t place more set lack full top e =
    let passes = (let P : List ℕ → Type 0 = λ l. Falls (runs (held (count_of_rank cards) 0)) 13 l in subst P top (Falls-falling (runs (held (count_of_rank cards) 0)) 13)) in
    let parts = both (nat_lt t 10) (run_at (held (count_of_rank cards) 0) t) passes.1 in
    let small : t < 10 = of_below_ten t parts.0 in
    let highest : (s : ℕ) → s < 10 → run_at (held (count_of_rank cards) 0) s ≡ true → s ≤ t = λ s l r. falling-first (runs (held (count_of_rank cards) 0)) 13 t more top s (omega arith) (rw (below_ten s l, r) refl) in
    omega (arith, exact_run cards t set lack full small parts.1 highest)
  where
    both : (x y : Bool) → (x && y) ≡ true → (x ≡ true) × (y ≡ true)
    both true y h = (refl, h)
    both false y h = absurd (true≢false (sym h))

pub three_is : (cards : List ℕ) (x rank digit : ℕ) (more : List ℕ) → IsCardSet cards → 5 ≤ length cards → ranks_where (held (count_of_rank cards) 3) ≡ [] → NoFull (count_of_rank cards) → NoRun (count_of_rank cards)
    → ranks_where (held (count_of_rank cards) 2) ≡ x ∷ more → rank ≡ x → digit ≡ digits_of 2 (ranks_where (except x (held (count_of_rank cards) 0)))
    → 3145728 + (rank + 2) * 65536 + digit * 256 ≡ value_of (best_plain cards)
unfolding ranks_where
three_is cards x rank digit more set five lack full bent top r d = omega (arith, exact_three cards x more set five lack full bent top, d)

pub none_is : (cards : List ℕ) (digit : ℕ) → IsCardSet cards → 5 ≤ length cards → NoRun (count_of_rank cards) → ranks_where (held (count_of_rank cards) 1) ≡ []
    → digit ≡ digits_of 5 (ranks_where (held (count_of_rank cards) 0)) → digit ≡ value_of (best_plain cards)
unfolding ranks_where
none_is cards digit set five bent none d = d ∙ sym (exact_none cards set five none bent)

pub one_is : (cards : List ℕ) (x rank digit : ℕ) (more : List ℕ) → IsCardSet cards → 5 ≤ length cards → ranks_where (held (count_of_rank cards) 2) ≡ [] → NoRun (count_of_rank cards)
    → ranks_where (held (count_of_rank cards) 1) ≡ x ∷ more → ranks_where (except x (held (count_of_rank cards) 1)) ≡ [] → rank ≡ x → digit ≡ digits_of 3 (ranks_where (except x (held (count_of_rank cards) 0)))
    → 1048576 + (rank + 2) * 65536 + digit * 16 ≡ value_of (best_plain cards)
unfolding ranks_where
one_is cards x rank digit more set five lack bent top none r d =
    let alone : falling (held (count_of_rank cards) 1) 13 ≡ x ∷ [] = top ∙ ap (λ l. x ∷ l) (sym (without_first (held (count_of_rank cards) 1) 13 x more top) ∙ none) in
    omega (arith, exact_one cards x set five lack bent alone, d)

pub two_is : (cards : List ℕ) (x y rank other digit : ℕ) (more rest : List ℕ) → IsCardSet cards → 5 ≤ length cards → ranks_where (held (count_of_rank cards) 2) ≡ [] → NoRun (count_of_rank cards)
    → ranks_where (held (count_of_rank cards) 1) ≡ x ∷ more → ranks_where (except x (held (count_of_rank cards) 1)) ≡ y ∷ rest → rank ≡ x → other ≡ y
    → digit ≡ digits_of 1 (ranks_where (except x (except y (held (count_of_rank cards) 0))))
    → 2097152 + (rank + 2) * 65536 + (other + 2) * 4096 + digit * 256 ≡ value_of (best_plain cards)
unfolding ranks_where
two_is cards x y rank other digit more rest set five lack bent top next r o d =
    let pairs : falling (held (count_of_rank cards) 1) 13 ≡ x ∷ y ∷ rest = top ∙ ap (λ l. x ∷ l) (sym (without_first (held (count_of_rank cards) 1) 13 x more top) ∙ next) in
    omega (arith, exact_two cards x y rest set five lack bent pairs, d)

-- a loop over the first digits: some are in the number, and the rest are those of the ranks that are left
abbrev pub Left : (ℕ → Bool) → List ℕ → ℕ → ℕ → ℕ → Type 0
Left test rest left number places = (now : ℕ → Bool) × (rest ≡ first_suit now) × (number + digits_of left (ranks_where now) ≡ digits_of places (ranks_where test))

powers : (left : ℕ) → left < 6 → slice_index_or (1 ∷ 16 ∷ 256 ∷ 4096 ∷ 65536 ∷ 1048576 ∷ []) left 0 ≡ 16 ^ left
powers zero h = refl
powers (suc zero) h = refl
powers (suc (suc zero)) h = refl
powers (suc (suc (suc zero))) h = refl
powers (suc (suc (suc (suc zero)))) h = refl
powers (suc (suc (suc (suc (suc zero))))) h = refl
powers (suc (suc (suc (suc (suc (suc n)))))) h = absurd (omega arith)

one_digit : (left r : ℕ) (rest : List ℕ) → 0 < left → digits_of left (r ∷ rest) ≡ (r + 2) * 16 ^ (left - 1) + digits_of (left - 1) rest
one_digit zero r rest h = absurd (omega arith)
one_digit (suc k) r rest h = let e : suc k - 1 ≡ k = omega arith in rw e refl

no_digit : (left : ℕ) → digits_of left [] ≡ 0
no_digit zero = refl
no_digit (suc k) = refl

pub left_none : (test : ℕ → Bool) (rest : List ℕ) (left number places : ℕ) → Left test rest left number places → ((now : ℕ → Bool) → rest ≡ first_suit now → ranks_where now ≡ []) → number ≡ digits_of places (ranks_where test)
left_none test rest left number places w none =
    let z : digits_of left (ranks_where w.0) ≡ 0 = ap (digits_of left) (none w.0 w.1) ∙ no_digit left in
    let e = w.2 in
    omega arith

pub left_done : (test : ℕ → Bool) (rest : List ℕ) (left number places : ℕ) → left ≡ 0 → Left test rest left number places → number ≡ digits_of places (ranks_where test)
left_done test rest left number places z w =
    let none : digits_of left (ranks_where w.0) ≡ 0 = ap (λ k. digits_of k (ranks_where w.0)) z in
    let e = w.2 in
    omega arith

pub left_more : (test : ℕ → Bool) (rest next : List ℕ) (card rank left at number places : ℕ) → 0 < left → left ≤ 5 → at ≡ left - 1 → Left test rest left number places
    → ((now : ℕ → Bool) → rest ≡ first_suit now → HasFirst now card) → rank ≡ rank_of card → next ≡ without_card rest card
    → Left test next (left - 1) (number + (rank + 2) * slice_index_or (1 ∷ 16 ∷ 256 ∷ 4096 ∷ 65536 ∷ 1048576 ∷ []) at 0) places
left_more test rest next card rank left at number places some few same w first r n =
    let top = first w.0 w.1 in
    let power : slice_index_or (1 ∷ 16 ∷ 256 ∷ 4096 ∷ 65536 ∷ 1048576 ∷ []) at 0 ≡ 16 ^ (left - 1) = ap (λ i. slice_index_or (1 ∷ 16 ∷ 256 ∷ 4096 ∷ 65536 ∷ 1048576 ∷ []) i 0) same ∙ powers (left - 1) (omega arith) in
    let digit : digits_of left (ranks_where w.0) ≡ (rank_of card + 2) * 16 ^ (left - 1) + digits_of (left - 1) top.0 = ap (digits_of left) top.2 ∙ one_digit left (rank_of card) top.0 some in
    let later : digits_of (left - 1) (ranks_where (except (rank_of card) w.0)) ≡ digits_of (left - 1) top.0 = ap (digits_of (left - 1)) (where_without_first w.0 (rank_of card) top.0 top.2) in
    let e = w.2 in
    let one : (rank + 2) * slice_index_or (1 ∷ 16 ∷ 256 ∷ 4096 ∷ 65536 ∷ 1048576 ∷ []) at 0 ≡ (rank_of card + 2) * 16 ^ (left - 1) = rw (power, r) refl in
    (except (rank_of card) w.0, n ∙ without_rank rest card w.0 top.1 w.1, omega arith)

pub left_small : (left at number places rank : ℕ) → 0 < left → left ≤ 5 → at ≡ left - 1 → rank < 13 → number + 16 ^ left ≤ 16 ^ places
    → number + (rank + 2) * slice_index_or (1 ∷ 16 ∷ 256 ∷ 4096 ∷ 65536 ∷ 1048576 ∷ []) at 0 + 16 ^ (left - 1) ≤ 16 ^ places
left_small zero at number places rank some few same h small = absurd (omega arith)
left_small (suc k) at number places rank some few same h small =
    let e : suc k - 1 ≡ k = omega arith in
    let power : slice_index_or (1 ∷ 16 ∷ 256 ∷ 4096 ∷ 65536 ∷ 1048576 ∷ []) at 0 ≡ 16 ^ k = ap (λ i. slice_index_or (1 ∷ 16 ∷ 256 ∷ 4096 ∷ 65536 ∷ 1048576 ∷ []) i 0) (same ∙ e) ∙ powers k (omega arith) in
    let less : (rank + 2) * 16 ^ k ≤ 15 * 16 ^ k = mul-le-mul_right (16 ^ k) (let l : rank + 2 ≤ 15 = omega arith in l) in
    let top : 16 ^ suc k ≡ 16 * 16 ^ k = omega arith in
    rw (e, power) (omega arith)

pub power_some : (n : ℕ) → 0 < 16 ^ n
power_some zero = omega arith
power_some (suc n) = let ih : 0 < 16 ^ n = power_some n in omega arith

pub places_small : (places : ℕ) → places ≤ 5 → 16 ^ places ≤ 16 ^ 5
places_small places h = pow-le-pow_right (let z : 0 < 16 = omega arith in z) h
