-- What five cards are worth by their ranks alone, shape by shape: each shape that the counts allow is made by some five.
use Rattle.rank_high.specs.ByRanks.{falling, held}
use Rattle.std.proofs.Common.{◌≡◌, ℕ, suc, zero, ◌+◌, ◌-◌, ◌*◌, ◌≤◌, ◌<◌, ◌==◌, List, ◌++◌, ◌∷◌, [], refl, ap, ◌∙◌, sym, arith, Bool, true, false, cond, length, inl, inr, map, subst, min}
use Rattle.std.specs.Prelude.{◌&&◌, nat_lt}
use Rattle.std.proofs.lemmas.Bool.{cases_eq, eqb-true}
use mathlib.Core.Bool.{true≢false}
use Rattle.card_sets.specs.Cards.{rank_of, has_card, IsCardSet, RisingFrom}
use Rattle.card_sets.specs.Choose.{choose}
use Rattle.card_sets.specs.Rising.{IsCardSet-rising}
use Rattle.rank_high.specs.High.{count_of_rank, ranks_below, ranks_counted, groups_counted}
use Rattle.rank_high.specs.Parts.{plain_high}
use Rattle.rank_high.proofs.CountedRanks.{total, total-add, total-same, total-none, total-past, length-more, count_of_rank-cons, ranks_counted-same}
use Rattle.rank_high.proofs.GroupsInOrder.{count-most}
use Rattle.card_sets.proofs.CallerLemmas.{greatest, IsPart, greatest_most, greatest_least}
use Rattle.rank_high.proofs.RanksOrSuit.{plain_number}
use Rattle.rank_high.proofs.FallingRanks.{Falls, Falls-falling, Falls-wider, ranks_below-falling}
use Rattle.rank_high.proofs.ShapeBounds.{Bounds, worth, worth-most}

-- each card is one of the deck
abbrev pub InDeck : List ℕ → Type 0
InDeck [] = Unit {0}
InDeck (c ∷ cards) = (rank_of c < 13) × InDeck cards

pub InDeck-rising : (low : ℕ) (cards : List ℕ) → RisingFrom low cards → InDeck cards
InDeck-rising low [] r = tt
InDeck-rising low (c ∷ cards) r = (let h : c < 52 = r.1 in omega arith, InDeck-rising (c + 1) cards r.2)

pub InDeck-part : (part cards : List ℕ) → IsPart part cards → InDeck cards → InDeck part
InDeck-part part [] p d = let P : List ℕ → Type 0 = λ l. InDeck l in subst P (sym p) tt
InDeck-part part (c ∷ cards) p d = elim p [
  | inl without ↦ InDeck-part part cards without d.1
  | inr with ↦ (let P : List ℕ → Type 0 = λ l. InDeck l in subst P (sym with.1) (d.0, InDeck-part with.0 cards with.2 d.1))
]

total-here : (r n : ℕ) → r < n → total (λ k. cond (r == k) 1 0) n ≡ 1
total-here r zero h = absurd (omega arith)
total-here r (suc n) h = elim (cases_eq r n) [
  | inl e ↦
      let none : total (λ k. cond (r == k) 1 0) n ≡ 0 = total-past r n (omega arith) in
      let t : (r == n) ≡ true = grind arith in
      rw (t, none) refl
  | inr ne ↦
      let f : (r == n) ≡ false = grind arith in
      let ih : total (λ k. cond (r == k) 1 0) n ≡ 1 = total-here r n (omega arith) in
      rw (f, ih) refl
]

-- the counts of the ranks add up to the cards
pub total-all : (cards : List ℕ) → InDeck cards → total (count_of_rank cards) 13 ≡ length cards
total-all [] d = total-none 13
total-all (x ∷ xs) d =
    let split : total (count_of_rank (x ∷ xs)) 13 ≡ total (λ k. cond (rank_of x == k) 1 0) 13 + total (count_of_rank xs) 13 =
    total-same (count_of_rank (x ∷ xs)) (λ k. cond (rank_of x == k) 1 0 + count_of_rank xs k) 13 (count_of_rank-cons x xs)
    ∙ total-add (λ k. cond (rank_of x == k) 1 0) (count_of_rank xs) 13 in
    let ih : total (count_of_rank xs) 13 ≡ length xs = total-all xs d.1 in
    omega (arith, split, total-here (rank_of x) 13 d.0, ih)

pub count-part : (part cards : List ℕ) (rank : ℕ) → IsPart part cards → count_of_rank part rank ≤ count_of_rank cards rank
count-part part [] rank p = let e : count_of_rank part rank ≡ 0 = ap (λ l. count_of_rank l rank) p in omega arith
count-part part (c ∷ cards) rank p = elim p [
  | inl without ↦ let ih : count_of_rank part rank ≤ count_of_rank cards rank = count-part part cards rank without in omega (arith, count_of_rank-cons c cards rank)
  | inr with ↦
      let ih : count_of_rank with.0 rank ≤ count_of_rank cards rank = count-part with.0 cards rank with.2 in
      let e : count_of_rank part rank ≡ count_of_rank (c ∷ with.0) rank = ap (λ l. count_of_rank l rank) with.1 in
      omega (arith, count_of_rank-cons c cards rank, count_of_rank-cons c with.0 rank)
]

one_size-all : (c : ℕ) → c ≤ 4 → 4 * cond (c == 4) 1 0 + 3 * cond (c == 3) 1 0 + 2 * cond (c == 2) 1 0 + cond (c == 1) 1 0 ≡ c
one_size-all zero h = refl
one_size-all (suc zero) h = refl
one_size-all (suc (suc zero)) h = refl
one_size-all (suc (suc (suc zero))) h = refl
one_size-all (suc (suc (suc (suc zero)))) h = refl
one_size-all (suc (suc (suc (suc (suc c))))) h = absurd (omega arith)

-- groups of four, three, two and one have all cards where no rank has more than four
pub sizes-all : (f : ℕ → ℕ) (n : ℕ) → ((k : ℕ) → k < n → f k ≤ 4) → 4 * length (ranks_below f 4 n) + 3 * length (ranks_below f 3 n) + 2 * length (ranks_below f 2 n) + length (ranks_below f 1 n) ≡ total f n
sizes-all f zero h = omega arith
sizes-all f (suc n) h =
    let ih : 4 * length (ranks_below f 4 n) + 3 * length (ranks_below f 3 n) + 2 * length (ranks_below f 2 n) + length (ranks_below f 1 n) ≡ total f n = sizes-all f n (λ k l. h k (omega arith)) in
    omega (arith, length-more f 4 n, length-more f 3 n, length-more f 2 n, length-more f 1 n, one_size-all (f n) (h n (omega arith)))

pub falls_counted : (f : ℕ → ℕ) (size : ℕ) → Falls (λ r. f r == size) 13 (ranks_below f size 13)
falls_counted f size = let P : List ℕ → Type 0 = λ l. Falls (λ r. f r == size) 13 l in subst P (sym (ranks_below-falling f size 13)) (Falls-falling (λ r. f r == size) 13)

plain_number-worth : (five : List ℕ) → plain_number five ≡ worth (ranks_below (count_of_rank five) 4 13) (ranks_below (count_of_rank five) 3 13) (ranks_below (count_of_rank five) 2 13) (ranks_below (count_of_rank five) 1 13)
unfolding plain_high groups_counted ranks_counted
plain_number-worth five = refl

-- no five cards are worth more by their ranks than a bound of what the counts allow
pub plain-bound : (cards : List ℕ) (v : ℕ) → IsCardSet cards → Bounds (count_of_rank cards) v → greatest (map plain_number (choose 5 cards)) ≤ v
plain-bound cards v set bounds = greatest_most 5 cards plain_number v (λ part five p.
    let deck : InDeck part = InDeck-part part cards p (InDeck-rising 0 cards (IsCardSet-rising cards set)) in
    let few : (k : ℕ) → k < 13 → count_of_rank part k ≤ 4 = λ k l. (let a = count-part part cards k p in let b = count-most cards k set in omega arith) in
    let most : worth (ranks_below (count_of_rank part) 4 13) (ranks_below (count_of_rank part) 3 13) (ranks_below (count_of_rank part) 2 13) (ranks_below (count_of_rank part) 1 13) ≤ v =
    worth-most (count_of_rank cards) (count_of_rank part) v bounds (λ r l. count-part part cards r p) _ _ _ _ (falls_counted (count_of_rank part) 4) (falls_counted (count_of_rank part) 3) (falls_counted (count_of_rank part) 2) (falls_counted (count_of_rank part) 1)
    (sizes-all (count_of_rank part) 13 few ∙ total-all part deck ∙ five) in
    omega (arith, plain_number-worth part))

-- one card less of a rank
abbrev pub less : (ℕ → ℕ) → ℕ → ℕ → ℕ
less g rank k = cond (k == rank) (g k - 1) (g k)

-- the first cards of each rank, so many of each
abbrev pub pick : (ℕ → ℕ) → List ℕ → List ℕ
pick g [] = []
pick g (c ∷ cards) = cond (nat_lt 0 (g (rank_of c))) (c ∷ pick (less g (rank_of c)) cards) (pick g cards)

pub pick-part : (g : ℕ → ℕ) (cards : List ℕ) → IsPart (pick g cards) cards
pick-part g [] = refl
pick-part g (c ∷ cards) = one (pick-part (less g (rank_of c)) cards) (pick-part g cards) (nat_lt 0 (g (rank_of c)))
  where
    one : IsPart (pick (less g (rank_of c)) cards) cards → IsPart (pick g cards) cards → (b : Bool) → IsPart (cond b (c ∷ pick (less g (rank_of c)) cards) (pick g cards)) (c ∷ cards)
    one a b true = inr (pick (less g (rank_of c)) cards, refl, a)
    one a b false = inl b

pick-count : (g : ℕ → ℕ) (cards : List ℕ) (rank : ℕ) → count_of_rank (pick g cards) rank ≡ min (g rank) (count_of_rank cards rank)
pick-count g [] rank = omega arith
pick-count g (c ∷ cards) rank = one (pick-count (less g (rank_of c)) cards rank) (pick-count g cards rank) (nat_lt 0 (g (rank_of c))) refl
  where
    one : count_of_rank (pick (less g (rank_of c)) cards) rank ≡ min (less g (rank_of c) rank) (count_of_rank cards rank)
        → count_of_rank (pick g cards) rank ≡ min (g rank) (count_of_rank cards rank)
        → (b : Bool) → nat_lt 0 (g (rank_of c)) ≡ b → count_of_rank (cond b (c ∷ pick (less g (rank_of c)) cards) (pick g cards)) rank ≡ min (g rank) (count_of_rank (c ∷ cards) rank)
    one a b true some = elim (cases_eq rank (rank_of c)) [
      | inl same ↦
          let t : (rank_of c == rank) ≡ true = grind arith in
          let u : (rank == rank_of c) ≡ true = grind arith in
          let more : count_of_rank (c ∷ cards) rank ≡ 1 + count_of_rank cards rank = count_of_rank-cons c cards rank ∙ rw t refl in
          let mine : count_of_rank (c ∷ pick (less g (rank_of c)) cards) rank ≡ 1 + count_of_rank (pick (less g (rank_of c)) cards) rank = count_of_rank-cons c (pick (less g (rank_of c)) cards) rank ∙ rw t refl in
          let here : less g (rank_of c) rank ≡ g rank - 1 = rw u refl in
          let pos : 0 < g (rank_of c) = grind arith in
          let pos' : 0 < g rank = (let e : g rank ≡ g (rank_of c) = ap g same in omega arith) in
          omega arith
      | inr other ↦
          let t : (rank_of c == rank) ≡ false = grind arith in
          let u : (rank == rank_of c) ≡ false = grind arith in
          let more : count_of_rank (c ∷ cards) rank ≡ 0 + count_of_rank cards rank = count_of_rank-cons c cards rank ∙ rw t refl in
          let mine : count_of_rank (c ∷ pick (less g (rank_of c)) cards) rank ≡ 0 + count_of_rank (pick (less g (rank_of c)) cards) rank = count_of_rank-cons c (pick (less g (rank_of c)) cards) rank ∙ rw t refl in
          let here : less g (rank_of c) rank ≡ g rank = rw u refl in
          omega arith
    ]
    one a b false none = elim (cases_eq rank (rank_of c)) [
      | inl same ↦
          let zero_here : g rank ≡ 0 = (let e : g rank ≡ g (rank_of c) = ap g same in let z : g (rank_of c) ≡ 0 = grind arith in omega arith) in
          omega arith
      | inr other ↦
          let t : (rank_of c == rank) ≡ false = grind arith in
          let more : count_of_rank (c ∷ cards) rank ≡ 0 + count_of_rank cards rank = count_of_rank-cons c cards rank ∙ rw t refl in
          omega arith
    ]

-- how often a rank is counted, by the lists of the ranks of groups
abbrev weight : Bool → Bool → Bool → Bool → ℕ
weight q t p o = 4 * cond q 1 0 + 3 * cond t 1 0 + 2 * cond p 1 0 + cond o 1 0

abbrev pub weights : List ℕ → List ℕ → List ℕ → List ℕ → ℕ → ℕ
weights q t p o r = weight (has_card q r) (has_card t r) (has_card p r) (has_card o r)

which : (q t p o : Bool) → (q ≡ true → weight q t p o ≡ 4) → (t ≡ true → weight q t p o ≡ 3) → (p ≡ true → weight q t p o ≡ 2) → (o ≡ true → weight q t p o ≡ 1)
    → (weight q t p o ≡ 4 → q ≡ true) × (weight q t p o ≡ 3 → t ≡ true) × (weight q t p o ≡ 2 → p ≡ true) × (weight q t p o ≡ 1 → o ≡ true)
which true t p o i j k l = let w = i refl in (λ e. refl, λ e. absurd (omega arith), λ e. absurd (omega arith), λ e. absurd (omega arith))
which false true p o i j k l = let w = j refl in (λ e. absurd (omega arith), λ e. refl, λ e. absurd (omega arith), λ e. absurd (omega arith))
which false false true o i j k l = let w = k refl in (λ e. absurd (omega arith), λ e. absurd (omega arith), λ e. refl, λ e. absurd (omega arith))
which false false false true i j k l = (λ e. absurd (omega arith), λ e. absurd (omega arith), λ e. absurd (omega arith), λ e. refl)
which false false false false i j k l = (λ e. absurd (omega arith), λ e. absurd (omega arith), λ e. absurd (omega arith), λ e. absurd (omega arith))

weight-le : (q t p o : Bool) (most : ℕ) → (q ≡ true → (weight q t p o ≡ 4) × (4 ≤ most)) → (t ≡ true → (weight q t p o ≡ 3) × (3 ≤ most)) → (p ≡ true → (weight q t p o ≡ 2) × (2 ≤ most)) → (o ≡ true → (weight q t p o ≡ 1) × (1 ≤ most)) → weight q t p o ≤ most
weight-le true t p o most i j k l = let w = i refl in omega (arith, w.0, w.1)
weight-le false true p o most i j k l = let w = j refl in omega (arith, w.0, w.1)
weight-le false false true o most i j k l = let w = k refl in omega (arith, w.0, w.1)
weight-le false false false true most i j k l = let w = l refl in omega (arith, w.0, w.1)
weight-le false false false false most i j k l = omega arith

total-weights : (q t p o : ℕ → Bool) (n : ℕ) → total (λ r. weight (q r) (t r) (p r) (o r)) n
    ≡ 4 * total (λ r. cond (q r) 1 0) n + 3 * total (λ r. cond (t r) 1 0) n + 2 * total (λ r. cond (p r) 1 0) n + total (λ r. cond (o r) 1 0) n
total-weights q t p o zero = omega arith
total-weights q t p o (suc n) = let ih = total-weights q t p o n in omega arith

member-passes : (p : ℕ → Bool) (n r : ℕ) (ls : List ℕ) → Falls p n ls → has_card ls r ≡ true → p r ≡ true
member-passes p n r [] f h = absurd (true≢false (sym h))
member-passes p n r (x ∷ ls) f h = elim (cases_eq x r) [
  | inl e ↦ sym (ap p e) ∙ f.1
  | inr ne ↦ (let no : (x == r) ≡ false = grind arith in member-passes p x r ls f.2 (rw no at h))
]

member-below : (p : ℕ → Bool) (n r : ℕ) (ls : List ℕ) → Falls p n ls → n ≤ r → has_card ls r ≡ false
member-below p n r [] f h = refl
member-below p n r (x ∷ ls) f h =
    let no : (x == r) ≡ false = (let l : x < n = f.0 in grind arith) in
    rw no (member-below p x r ls f.2 (omega arith))

total-member : (p : ℕ → Bool) (n m : ℕ) (ls : List ℕ) → Falls p n ls → n ≤ m → total (λ r. cond (has_card ls r) 1 0) m ≡ length ls
total-member p n m [] f h = total-none m
total-member p n m (x ∷ ls) f h =
    let ih : total (λ r. cond (has_card ls r) 1 0) m ≡ length ls = total-member p x m ls f.2 (omega arith) in
    let split : total (λ r. cond (has_card (x ∷ ls) r) 1 0) m ≡ total (λ r. cond (x == r) 1 0 + cond (has_card ls r) 1 0) m =
    total-same (λ r. cond (has_card (x ∷ ls) r) 1 0) (λ r. cond (x == r) 1 0 + cond (has_card ls r) 1 0) m each in
    omega (arith, split, total-add (λ r. cond (x == r) 1 0) (λ r. cond (has_card ls r) 1 0) m, total-here x m (omega arith), ih)
  where
    each : (r : ℕ) → cond {A = ℕ} (has_card (x ∷ ls) r) 1 0 ≡ cond {A = ℕ} (x == r) 1 0 + cond {A = ℕ} (has_card ls r) 1 0
    each r = elim (cases_eq x r) [
      | inl e ↦
          let t : (x == r) ≡ true = grind arith in
          let no : has_card ls r ≡ false = member-below p x r ls f.2 (omega arith) in
          rw (t, no) refl
      | inr ne ↦ (let no : (x == r) ≡ false = grind arith in rw no (omega arith))
    ]

-- a falling list of all ranks that pass is the list of them
listed : (p : ℕ → Bool) (n : ℕ) (ls : List ℕ) → Falls p n ls → ((r : ℕ) → r < n → p r ≡ true → has_card ls r ≡ true) → falling p n ≡ ls
listed p zero [] f h = refl
listed p zero (x ∷ ls) f h = absurd (omega arith)
listed p (suc n) ls f h = one (λ ls f h. listed p n ls f h) (p n) refl ls f h
  where
    one : ((ls : List ℕ) → Falls p n ls → ((r : ℕ) → r < n → p r ≡ true → has_card ls r ≡ true) → falling p n ≡ ls)
        → (b : Bool) → p n ≡ b → (ls : List ℕ) → Falls p (suc n) ls → ((r : ℕ) → r < suc n → p r ≡ true → has_card ls r ≡ true) → cond b (n ∷ []) [] ++ falling p n ≡ ls
    one ih true e [] f h = absurd (true≢false (sym (h n (omega arith) e)))
    one ih true e (x ∷ ls) f h = elim (cases_eq x n) [
      | inl same ↦
          let rest : falling p n ≡ ls = ih ls (Falls-wider p p x n ls (λ r l t. t) (omega arith) f.2) (λ r l t. let no : (x == r) ≡ false = grind arith in (rw no at (h r (omega arith) t))) in
          cc
      | inr ne ↦
          let l : x < n = (let a : x < suc n = f.0 in omega arith) in
          let no : (x == n) ≡ false = grind arith in
          let out : has_card (x ∷ ls) n ≡ false = rw no (member-below p x n ls f.2 (omega arith)) in
          absurd (true≢false (sym (h n (omega arith) e) ∙ out))
    ]
    one ih false e [] f h = ih [] tt (λ r l t. h r (omega arith) t)
    one ih false e (x ∷ ls) f h = elim (cases_eq x n) [
      | inl same ↦ absurd (true≢false (sym f.1 ∙ ap p same ∙ e))
      | inr ne ↦ ih (x ∷ ls) (let a : x < suc n = f.0 in omega arith, f.1, f.2) (λ r l t. h r (omega arith) t)
    ]

held-more : (f : ℕ → ℕ) (n r : ℕ) → held f n r ≡ true → suc n ≤ f r
held-more f n r h = grind arith

-- the ranks of a shape that the counts allow
pub record Allowed (f : ℕ → ℕ) (q t p o : List ℕ) : Type 0 where
  pub fours : Falls (λ r. (weights q t p o r == 4) && held f 3 r) 13 q
  pub threes : Falls (λ r. (weights q t p o r == 3) && held f 2 r) 13 t
  pub pairs : Falls (λ r. (weights q t p o r == 2) && held f 1 r) 13 p
  pub ones : Falls (λ r. (weights q t p o r == 1) && held f 0 r) 13 o
  pub five : 4 * length q + 3 * length t + 2 * length p + length o ≡ 5

both' : (x y : Bool) → (x && y) ≡ true → (x ≡ true) × (y ≡ true)
both' true y h = (refl, h)
both' false y h = absurd (true≢false (sym h))

-- what a member of a list of such a shape is counted
counted : (f w : ℕ → ℕ) (size n r : ℕ) (ls : List ℕ) → Falls (λ r. (w r == size) && held f n r) 13 ls → has_card ls r ≡ true → (w r ≡ size) × (suc n ≤ f r)
counted f w size n r ls falls h =
    let parts = both' (w r == size) (held f n r) (member-passes (λ r. (w r == size) && held f n r) 13 r ls falls h) in
    (eqb-true (w r) size parts.0, held-more f n r parts.1)

weights-le : (f : ℕ → ℕ) (q t p o : List ℕ) → Allowed f q t p o → (r : ℕ) → weights q t p o r ≤ f r
weights-le f q t p o a r = weight-le (has_card q r) (has_card t r) (has_card p r) (has_card o r) (f r)
    (counted f (weights q t p o) 4 3 r q a.fours) (counted f (weights q t p o) 3 2 r t a.threes) (counted f (weights q t p o) 2 1 r p a.pairs) (counted f (weights q t p o) 1 0 r o a.ones)

pub weights-which : (f : ℕ → ℕ) (q t p o : List ℕ) → Allowed f q t p o → (r : ℕ)
    → (weights q t p o r ≡ 4 → has_card q r ≡ true) × (weights q t p o r ≡ 3 → has_card t r ≡ true) × (weights q t p o r ≡ 2 → has_card p r ≡ true) × (weights q t p o r ≡ 1 → has_card o r ≡ true)
weights-which f q t p o a r = which (has_card q r) (has_card t r) (has_card p r) (has_card o r)
    (λ h. (counted f (weights q t p o) 4 3 r q a.fours h).0) (λ h. (counted f (weights q t p o) 3 2 r t a.threes h).0) (λ h. (counted f (weights q t p o) 2 1 r p a.pairs h).0) (λ h. (counted f (weights q t p o) 1 0 r o a.ones h).0)

pub weights-total : (f : ℕ → ℕ) (q t p o : List ℕ) → Allowed f q t p o → total (weights q t p o) 13 ≡ 5
weights-total f q t p o a =
    omega (
      arith,
      total-weights (has_card q) (has_card t) (has_card p) (has_card o) 13,
      a.five,
      total-member _ 13 13 q a.fours (omega arith),
      total-member _ 13 13 t a.threes (omega arith),
      total-member _ 13 13 p a.pairs (omega arith),
      total-member _ 13 13 o a.ones (omega arith),
    )

-- the list of the ranks that are counted so often
pub weights-listed : (f w : ℕ → ℕ) (size n : ℕ) (ls : List ℕ) → Falls (λ r. (w r == size) && held f n r) 13 ls → ((r : ℕ) → w r ≡ size → has_card ls r ≡ true) → ranks_below w size 13 ≡ ls
weights-listed f w size n ls falls all =
    ranks_below-falling w size 13 ∙ listed (λ r. w r == size) 13 ls (Falls-wider (λ r. (w r == size) && held f n r) (λ r. w r == size) 13 13 ls (λ r l i. (both' (w r == size) (held f n r) i).0) (omega arith) falls) (λ r l i. all r (eqb-true (w r) size i))

pub picked : (cards q t p o : List ℕ) → Allowed (count_of_rank cards) q t p o → (r : ℕ) → count_of_rank (pick (weights q t p o) cards) r ≡ weights q t p o r
picked cards q t p o a r = omega (arith, pick-count (weights q t p o) cards r, weights-le (count_of_rank cards) q t p o a r)

picked-length : (cards q t p o : List ℕ) → IsCardSet cards → Allowed (count_of_rank cards) q t p o → length (pick (weights q t p o) cards) ≡ 5
picked-length cards q t p o set a =
    sym (total-all (pick (weights q t p o) cards) (InDeck-part (pick (weights q t p o) cards) cards (pick-part (weights q t p o) cards) (InDeck-rising 0 cards (IsCardSet-rising cards set))))
    ∙ total-same (count_of_rank (pick (weights q t p o) cards)) (weights q t p o) 13 (picked cards q t p o a)
    ∙ weights-total (count_of_rank cards) q t p o a

worth-same : (f w : ℕ → ℕ) (q t p o : List ℕ) → ((r : ℕ) → f r ≡ w r) → ranks_below w 4 13 ≡ q → ranks_below w 3 13 ≡ t → ranks_below w 2 13 ≡ p → ranks_below w 1 13 ≡ o
    → worth (ranks_below f 4 13) (ranks_below f 3 13) (ranks_below f 2 13) (ranks_below f 1 13) ≡ worth q t p o
unfolding ranks_counted
worth-same f w q t p o same eq et ep eo =
    let iq : ranks_below f 4 13 ≡ q = ranks_counted-same f w 4 (λ k l. same k) ∙ eq in
    let it : ranks_below f 3 13 ≡ t = ranks_counted-same f w 3 (λ k l. same k) ∙ et in
    let ip : ranks_below f 2 13 ≡ p = ranks_counted-same f w 2 (λ k l. same k) ∙ ep in
    let io : ranks_below f 1 13 ≡ o = ranks_counted-same f w 1 (λ k l. same k) ∙ eo in
    ap (λ l. worth l (ranks_below f 3 13) (ranks_below f 2 13) (ranks_below f 1 13)) iq ∙ ap (λ l. worth q l (ranks_below f 2 13) (ranks_below f 1 13)) it
    ∙ ap (λ l. worth q t l (ranks_below f 1 13)) ip ∙ ap (λ l. worth q t p l) io

-- each shape that the counts allow is worth no more than the best five
pub shape-reached : (cards q t p o : List ℕ) → IsCardSet cards → Allowed (count_of_rank cards) q t p o → worth q t p o ≤ greatest (map plain_number (choose 5 cards))
shape-reached cards q t p o set a =
    let part : List ℕ = pick (weights q t p o) cards in
    let which_of = weights-which (count_of_rank cards) q t p o a in
    let at : plain_number part ≤ greatest (map plain_number (choose 5 cards)) = greatest_least 5 cards plain_number part (picked-length cards q t p o set a) (pick-part (weights q t p o) cards) in
    let same : plain_number part ≡ worth q t p o = plain_number-worth part ∙ worth-same (count_of_rank part) (weights q t p o) q t p o (picked cards q t p o a)
    (weights-listed (count_of_rank cards) (weights q t p o) 4 3 q a.fours (λ r e. (which_of r).0 e)) (weights-listed (count_of_rank cards) (weights q t p o) 3 2 t a.threes (λ r e. (which_of r).1 e))
    (weights-listed (count_of_rank cards) (weights q t p o) 2 1 p a.pairs (λ r e. (which_of r).2 e)) (weights-listed (count_of_rank cards) (weights q t p o) 1 0 o a.ones (λ r e. (which_of r).3 e)) in
    omega arith
