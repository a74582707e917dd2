-- The best five by ranks alone is exactly what each case of a body finds, where there are five cards or more.
use Rattle.rank_high.specs.ByRanks.{NoFull, NoRun, digits_of, except, falling, held, run_at}
use Rattle.std.proofs.Common.{◌≡◌, ℕ, suc, zero, ◌+◌, ◌*◌, ◌^◌, ◌≤◌, ◌<◌, ◌==◌, List, ◌++◌, ◌∷◌, [], refl, ap, ◌∙◌, sym, arith, Bool, true, false, cond, length, inl, inr, map, subst}
use Rattle.std.specs.Prelude.{◌&&◌, not}
use Rattle.std.proofs.lemmas.Bool.{cases_eq}
use mathlib.Core.Bool.{true≢false}
use Rattle.card_sets.specs.Cards.{IsCardSet}
use Rattle.card_sets.specs.Choose.{choose}
use Rattle.card_sets.specs.Rising.{IsCardSet-rising}
use Rattle.rank_high.specs.High.{value_of, count_of_rank}
use Rattle.rank_high.specs.Parts.{best_plain}
use Rattle.rank_high.proofs.CountedRanks.{total, total-add}
use Rattle.rank_high.proofs.GroupsInOrder.{count-most}
use Rattle.card_sets.proofs.CallerLemmas.{greatest}
use Rattle.rank_high.proofs.RanksOrSuit.{plain_number, best_plain-number}
use Rattle.rank_high.proofs.FallingRanks.{Falls, Falls-falling, falling-some, falling-only}
use Rattle.rank_high.proofs.ShapeBounds.{Bounds}
use Rattle.rank_high.proofs.ReachedShapes.{plain-bound, total-all, InDeck-rising}
use Rattle.rank_high.proofs.LeastBound.{Bounds-best}
use Rattle.rank_high.proofs.ShapeCases.{differ, bound_four, bound_full, bound_run, bound_three, bound_two, bound_one, bound_none}

total-mono : (f g : ℕ → ℕ) (n : ℕ) → ((r : ℕ) → r < n → f r ≤ g r) → total f n ≤ total g n
total-mono f g zero h = omega arith
total-mono f g (suc n) h = let ih : total f n ≤ total g n = total-mono f g n (λ r l. h r (omega arith)) in omega (arith, h n (omega arith))

at-past : (c x n : ℕ) → n ≤ x → total (λ r. cond (x == r) c 0) n ≡ 0
at-past c x zero h = refl
at-past c x (suc n) h =
    let ih : total (λ r. cond (x == r) c 0) n ≡ 0 = at-past c x n (omega arith) in
    let ne : (x == n) ≡ false = grind arith in
    rw (ne, ih) refl

at-most : (c x n : ℕ) → total (λ r. cond (x == r) c 0) n ≤ c
at-most c x zero = omega arith
at-most c x (suc n) = elim (cases_eq x n) [
  | inl e ↦
      let past : total (λ r. cond (x == r) c 0) n ≡ 0 = at-past c x n (omega arith) in
      let t : (x == n) ≡ true = grind arith in
      rw (t, past) (omega arith)
  | inr ne ↦
      let f : (x == n) ≡ false = grind arith in
      let ih : total (λ r. cond (x == r) c 0) n ≤ c = at-most c x n in
      rw f (omega arith)
]

total-falling : (p : ℕ → Bool) (n : ℕ) → total (λ r. cond (p r) 1 0) n ≡ length (falling p n)
total-falling p zero = refl
total-falling p (suc n) =
    let ih : total (λ r. cond (p r) 1 0) n ≡ length (falling p n) = total-falling p n in
    one ih (p n)
  where
    one : total (λ r. cond (p r) 1 0) n ≡ length (falling p n) → (b : Bool) → cond b 1 0 + total (λ r. cond (p r) 1 0) n ≡ length (cond b (n ∷ []) [] ++ falling p n)
    one ih true = omega arith
    one ih false = omega arith

not_held : (f : ℕ → ℕ) (n r : ℕ) → (held f n r ≡ true → ⊥) → f r ≤ n
not_held f n r h = grind arith

-- a count, by whether the rank is the one, and whether another has cards
by_one : (f : ℕ → ℕ) (x c r : ℕ) → f x ≤ c → ((x == r) ≡ false → held f 0 r ≡ true → f r ≤ 1) → f r ≤ cond (x == r) c 0 + cond (except x (held f 0) r) 1 0
by_one f x c r top rest = elim (cases_eq x r) [
  | inl e ↦ (let t : (x == r) ≡ true = grind arith in let same : f x ≡ f r = ap f e in rw t (omega arith))
  | inr ne ↦
      let t : (x == r) ≡ false = differ x r ne in
      let u : (r == x) ≡ false = differ r x (λ e. ne (sym e)) in
      (elim (held f 0 r) as (λ b. held f 0 r ≡ b → f r ≤ cond (x == r) c 0 + cond (not (r == x) && b) 1 0) [
        | true ↦ λ h. (let one : f r ≤ 1 = rest t h in rw (t, u) (omega arith))
        | false ↦ λ h. (let z : f r ≤ 0 = not_held f 0 r (λ i. true≢false (sym i ∙ h)) in rw (t, u) (omega arith))
      ] refl)
]

turned : (x r : ℕ) → (x == r) ≡ false → (r == x) ≡ false
turned x r h = elim (cases_eq r x) [
  | inl e ↦ absurd (true≢false (sym (same x r (sym e)) ∙ h))
  | inr ne ↦ differ r x ne
]
  where
    same : (x r : ℕ) → x ≡ r → (x == r) ≡ true
    same x r e = grind arith

same_rank : (x r : ℕ) → r ≡ x → (x == r) ≡ true
same_rank x r e = grind arith

-- with one rank of so many cards and single others there are at least so many others
others-enough : (f : ℕ → ℕ) (x c : ℕ) → 5 ≤ total f 13 → f x ≤ c → ((r : ℕ) → r < 13 → (x == r) ≡ false → held f 0 r ≡ true → f r ≤ 1) → 5 ≤ c + length (falling (except x (held f 0)) 13)
others-enough f x c five top rest =
    let all : total f 13 ≤ total (λ r. cond (x == r) c 0 + cond (except x (held f 0) r) 1 0) 13 = total-mono f (λ r. cond (x == r) c 0 + cond (except x (held f 0) r) 1 0) 13 (λ r l. by_one f x c r top (rest r l)) in
    omega (arith, all, total-add (λ r. cond (x == r) c 0) (λ r. cond (except x (held f 0) r) 1 0) 13, at-most c x 13, total-falling (except x (held f 0)) 13)

-- the first of some ranks, where there are as many
first_one : (ls : List ℕ) → 1 ≤ length ls → (b : ℕ) × (rest : List ℕ) × (ls ≡ b ∷ rest)
first_one [] h = absurd (omega arith)
first_one (b ∷ rest) h = (b, rest, refl)

first_two : (ls : List ℕ) → 2 ≤ length ls → (b : ℕ) × (c : ℕ) × (rest : List ℕ) × (ls ≡ b ∷ c ∷ rest)
first_two [] h = absurd (omega arith)
first_two (b ∷ []) h = absurd (omega arith)
first_two (b ∷ c ∷ rest) h = (b, c, rest, refl)

first_three : (ls : List ℕ) → 3 ≤ length ls → (b : ℕ) × (c : ℕ) × (d : ℕ) × (rest : List ℕ) × (ls ≡ b ∷ c ∷ d ∷ rest)
first_three [] h = absurd (omega arith)
first_three (b ∷ []) h = absurd (omega arith)
first_three (b ∷ c ∷ []) h = absurd (omega arith)
first_three (b ∷ c ∷ d ∷ rest) h = (b, c, d, rest, refl)

first_five : (ls : List ℕ) → 5 ≤ length ls → (a : ℕ) × (b : ℕ) × (c : ℕ) × (d : ℕ) × (e : ℕ) × (rest : List ℕ) × (ls ≡ a ∷ b ∷ c ∷ d ∷ e ∷ rest)
first_five [] h = absurd (omega arith)
first_five (a ∷ []) h = absurd (omega arith)
first_five (a ∷ b ∷ []) h = absurd (omega arith)
first_five (a ∷ b ∷ c ∷ []) h = absurd (omega arith)
first_five (a ∷ b ∷ c ∷ d ∷ []) h = absurd (omega arith)
first_five (a ∷ b ∷ c ∷ d ∷ e ∷ rest) h = (a, b, c, d, e, rest, refl)

falls_as : (p : ℕ → Bool) (ls : List ℕ) → falling p 13 ≡ ls → Falls p 13 ls
falls_as p ls e = let P : List ℕ → Type 0 = λ l. Falls p 13 l in subst P e (Falls-falling p 13)

-- a bound that is some shape's number is the best
exactly : (cards : List ℕ) (v : ℕ) → IsCardSet cards → Bounds (count_of_rank cards) v → v ≤ greatest (map plain_number (choose 5 cards)) → value_of (best_plain cards) ≡ v
exactly cards v set bounds h = omega (arith, best_plain-number cards, plain-bound cards v set bounds)

cards-enough : (cards : List ℕ) → IsCardSet cards → 5 ≤ length cards → 5 ≤ total (count_of_rank cards) 13
cards-enough cards set h = omega (arith, total-all cards (InDeck-rising 0 cards (IsCardSet-rising cards set)))

pub exact_four : (cards : List ℕ) (x : ℕ) (more : List ℕ) → IsCardSet cards → 5 ≤ length cards → falling (held (count_of_rank cards) 3) 13 ≡ x ∷ more
    → value_of (best_plain cards) ≡ 7 * 16 ^ 5 + (x + 2) * 16 ^ 4 + digits_of 1 (falling (except x (held (count_of_rank cards) 0)) 13) * 16 ^ 3
exact_four cards x more set five e =
    let f : ℕ → ℕ = count_of_rank cards in
    let top = falls_as (held (count_of_rank cards) 3) (x ∷ more) e in
    let some : 1 ≤ length (falling (except x (held (count_of_rank cards) 0)) 13) = at_least_one (falling (except x (held (count_of_rank cards) 0)) 13) refl in
    let y = first_one (falling (except x (held (count_of_rank cards) 0)) 13) some in
    let falls = falls_as (except x (held (count_of_rank cards) 0)) (y.0 ∷ y.1) y.2 in
    let at = (Bounds-best cards set).four x y.0 top.0 falls.0 top.1 falls.1 in
    exactly cards _ set (bound_four (count_of_rank cards) x more e) (omega (arith, ap (λ l. digits_of 1 l) y.2))
  where
    covered : (r : ℕ) → falling (except x (held (count_of_rank cards) 0)) 13 ≡ [] → r < 13 → count_of_rank cards r ≤ cond (x == r) 4 0
    covered r none l = elim (cases_eq x r) [
      | inl same ↦ (let t : (x == r) ≡ true = grind arith in rw t (count-most cards r set))
      | inr ne ↦
          let t : (x == r) ≡ false = differ x r ne in
          let u : (r == x) ≡ false = differ r x (λ e. ne (sym e)) in
          let z : count_of_rank cards r ≤ 0 = not_held (count_of_rank cards) 0 r (λ h. falling-some (except x (held (count_of_rank cards) 0)) 13 r l (rw (u, h) refl) none) in
          rw t z
    ]

    at_least_one : (ls : List ℕ) → falling (except x (held (count_of_rank cards) 0)) 13 ≡ ls → 1 ≤ length ls
    at_least_one [] none = absurd (omega (arith, cards-enough cards set five, total-mono (count_of_rank cards) (λ r. cond (x == r) 4 0) 13 (λ r l. covered r none l), at-most 4 x 13))
    at_least_one (y ∷ ls) e = omega arith

pub exact_full : (cards : List ℕ) (x y : ℕ) (more rest : List ℕ) → IsCardSet cards → falling (held (count_of_rank cards) 3) 13 ≡ [] → falling (held (count_of_rank cards) 2) 13 ≡ x ∷ more → falling (except x (held (count_of_rank cards) 1)) 13 ≡ y ∷ rest
    → value_of (best_plain cards) ≡ 6 * 16 ^ 5 + (x + 2) * 16 ^ 4 + digits_of 1 (falling (except x (held (count_of_rank cards) 1)) 13) * 16 ^ 3
exact_full cards x y more rest set lack e g =
    let top = falls_as (held (count_of_rank cards) 2) (x ∷ more) e in
    let falls = falls_as (except x (held (count_of_rank cards) 1)) (y ∷ rest) g in
    let at = (Bounds-best cards set).full x y top.0 falls.0 top.1 falls.1 in
    exactly cards _ set (bound_full (count_of_rank cards) x y more rest lack e g) (omega (arith, ap (λ l. digits_of 1 l) g))

pub exact_run : (cards : List ℕ) (t : ℕ) → IsCardSet cards → falling (held (count_of_rank cards) 3) 13 ≡ [] → NoFull (count_of_rank cards) → t < 10 → run_at (held (count_of_rank cards) 0) t ≡ true
    → ((s : ℕ) → s < 10 → run_at (held (count_of_rank cards) 0) s ≡ true → s ≤ t) → value_of (best_plain cards) ≡ 4 * 16 ^ 5 + t * 69905 + 344865
exact_run cards t set lack full h r highest = exactly cards _ set (bound_run (count_of_rank cards) t lack full highest) ((Bounds-best cards set).run t h r)

pub exact_three : (cards : List ℕ) (x : ℕ) (more : List ℕ) → IsCardSet cards → 5 ≤ length cards → falling (held (count_of_rank cards) 3) 13 ≡ [] → NoFull (count_of_rank cards) → NoRun (count_of_rank cards) → falling (held (count_of_rank cards) 2) 13 ≡ x ∷ more
    → value_of (best_plain cards) ≡ 3 * 16 ^ 5 + (x + 2) * 16 ^ 4 + digits_of 2 (falling (except x (held (count_of_rank cards) 0)) 13) * 16 ^ 2
exact_three cards x more set five lack full bent e =
    let top = falls_as (held (count_of_rank cards) 2) (x ∷ more) e in
    let three : count_of_rank cards x ≤ 3 = not_held (count_of_rank cards) 3 x (λ h. falling-some (held (count_of_rank cards) 3) 13 x top.0 h lack) in
    let enough = others-enough (count_of_rank cards) x 3 (cards-enough cards set five) three (λ r l ne h. not_held (count_of_rank cards) 1 r (λ two. full x r top.0 l top.1 (let u : (r == x) ≡ false = turned x r ne in rw (u, two) refl))) in
    let y = first_two (falling (except x (held (count_of_rank cards) 0)) 13) (omega arith) in
    let falls = falls_as (except x (held (count_of_rank cards) 0)) (y.0 ∷ y.1 ∷ y.2) y.3 in
    let at = (Bounds-best cards set).three x y.0 y.1 top.0 top.1 (falls.0, falls.1, (falls.2.0, falls.2.1, tt)) in
    let P : List ℕ → Type 0 = λ l. 3 * 16 ^ 5 + (x + 2) * 16 ^ 4 + digits_of 2 l * 16 ^ 2 ≤ greatest (map plain_number (choose 5 cards)) in
    exactly cards _ set (bound_three (count_of_rank cards) x more lack full bent e) (subst P (sym y.3) at)

pub exact_one : (cards : List ℕ) (x : ℕ) → IsCardSet cards → 5 ≤ length cards → falling (held (count_of_rank cards) 2) 13 ≡ [] → NoRun (count_of_rank cards) → falling (held (count_of_rank cards) 1) 13 ≡ x ∷ []
    → value_of (best_plain cards) ≡ 16 ^ 5 + (x + 2) * 16 ^ 4 + digits_of 3 (falling (except x (held (count_of_rank cards) 0)) 13) * 16
exact_one cards x set five lack bent e =
    let top = falls_as (held (count_of_rank cards) 1) (x ∷ []) e in
    let two : count_of_rank cards x ≤ 2 = not_held (count_of_rank cards) 2 x (λ h. falling-some (held (count_of_rank cards) 2) 13 x top.0 h lack) in
    let enough = others-enough (count_of_rank cards) x 2 (cards-enough cards set five) two (λ r l ne h. not_held (count_of_rank cards) 1 r (λ pair. absurd (true≢false (sym (same_rank x r (falling-only (held (count_of_rank cards) 1) 13 x e r l pair)) ∙ ne)))) in
    let y = first_three (falling (except x (held (count_of_rank cards) 0)) 13) (omega arith) in
    let falls = falls_as (except x (held (count_of_rank cards) 0)) (y.0 ∷ y.1 ∷ y.2 ∷ y.3) y.4 in
    let at = (Bounds-best cards set).one x y.0 y.1 y.2 top.0 top.1 (falls.0, falls.1, (falls.2.0, falls.2.1, (falls.2.2.0, falls.2.2.1, tt))) in
    let P : List ℕ → Type 0 = λ l. 16 ^ 5 + (x + 2) * 16 ^ 4 + digits_of 3 l * 16 ≤ greatest (map plain_number (choose 5 cards)) in
    exactly cards _ set (bound_one (count_of_rank cards) x lack bent e) (subst P (sym y.4) at)

pub exact_none : (cards : List ℕ) → IsCardSet cards → 5 ≤ length cards → falling (held (count_of_rank cards) 1) 13 ≡ [] → NoRun (count_of_rank cards)
    → value_of (best_plain cards) ≡ digits_of 5 (falling (held (count_of_rank cards) 0) 13)
exact_none cards set five lack bent =
    let all : total (count_of_rank cards) 13 ≤ total (λ r. cond (held (count_of_rank cards) 0 r) 1 0) 13 = total-mono (count_of_rank cards) (λ r. cond (held (count_of_rank cards) 0 r) 1 0) 13 single in
    let y = first_five (falling (held (count_of_rank cards) 0) 13) (omega (arith, all, total-falling (held (count_of_rank cards) 0) 13, cards-enough cards set five)) in
    let falls = falls_as (held (count_of_rank cards) 0) (y.0 ∷ y.1 ∷ y.2 ∷ y.3 ∷ y.4 ∷ y.5) y.6 in
    let at = (Bounds-best cards set).none y.0 y.1 y.2 y.3 y.4 (falls.0, falls.1, (falls.2.0, falls.2.1, (falls.2.2.0, falls.2.2.1, (falls.2.2.2.0, falls.2.2.2.1, (falls.2.2.2.2.0, falls.2.2.2.2.1, tt))))) in
    let P : List ℕ → Type 0 = λ l. digits_of 5 l ≤ greatest (map plain_number (choose 5 cards)) in
    exactly cards _ set (bound_none (count_of_rank cards) lack bent) (subst P (sym y.6) at)
  where
    single : (r : ℕ) → r < 13 → count_of_rank cards r ≤ cond (held (count_of_rank cards) 0 r) 1 0
    single r l =
        let low : count_of_rank cards r ≤ 1 = not_held (count_of_rank cards) 1 r (λ h. falling-some (held (count_of_rank cards) 1) 13 r l h lack) in
        elim (held (count_of_rank cards) 0 r) as (λ b. held (count_of_rank cards) 0 r ≡ b → count_of_rank cards r ≤ cond b 1 0) [
          | true ↦ λ h. low
          | false ↦ λ h. not_held (count_of_rank cards) 0 r (λ i. true≢false (sym i ∙ h))
        ] refl

pub exact_two : (cards : List ℕ) (x y : ℕ) (more : List ℕ) → IsCardSet cards → 5 ≤ length cards → falling (held (count_of_rank cards) 2) 13 ≡ [] → NoRun (count_of_rank cards) → falling (held (count_of_rank cards) 1) 13 ≡ x ∷ y ∷ more
    → value_of (best_plain cards) ≡ 2 * 16 ^ 5 + (x + 2) * 16 ^ 4 + (y + 2) * 16 ^ 3 + digits_of 1 (falling (except x (except y (held (count_of_rank cards) 0))) 13) * 16 ^ 2
exact_two cards x y more set five lack bent e =
    let top = falls_as (held (count_of_rank cards) 1) (x ∷ y ∷ more) e in
    let some : 1 ≤ length (falling (except x (except y (held (count_of_rank cards) 0))) 13) = at_least_one (falling (except x (except y (held (count_of_rank cards) 0))) 13) refl in
    let z = first_one (falling (except x (except y (held (count_of_rank cards) 0))) 13) some in
    let falls = falls_as (except x (except y (held (count_of_rank cards) 0))) (z.0 ∷ z.1) z.2 in
    let at = (Bounds-best cards set).two x y z.0 (top.0, top.1, (top.2.0, top.2.1, tt)) falls.0 falls.1 in
    let P : List ℕ → Type 0 = λ l. 2 * 16 ^ 5 + (x + 2) * 16 ^ 4 + (y + 2) * 16 ^ 3 + digits_of 1 l * 16 ^ 2 ≤ greatest (map plain_number (choose 5 cards)) in
    exactly cards _ set (bound_two (count_of_rank cards) x y more lack bent e) (subst P (sym z.2) at)
  where
    covered : (r : ℕ) → falling (except x (except y (held (count_of_rank cards) 0))) 13 ≡ [] → r < 13 → count_of_rank cards r ≤ cond (x == r) 2 0 + cond (y == r) 2 0
    covered r none l =
        let two : count_of_rank cards r ≤ 2 = not_held (count_of_rank cards) 2 r (λ h. falling-some (held (count_of_rank cards) 2) 13 r l h lack) in
        elim (cases_eq x r) [
          | inl same ↦ (let t : (x == r) ≡ true = same_rank x r (sym same) in rw t (omega arith))
          | inr ne ↦ elim (cases_eq y r) [
            | inl also ↦ (let t : (y == r) ≡ true = same_rank y r (sym also) in rw t (omega arith))
            | inr nor ↦
                let u : (r == x) ≡ false = differ r x (λ e. ne (sym e)) in
                let v : (r == y) ≡ false = differ r y (λ e. nor (sym e)) in
                let z : count_of_rank cards r ≤ 0 = not_held (count_of_rank cards) 0 r (λ h. falling-some (except x (except y (held (count_of_rank cards) 0))) 13 r l (rw (u, v, h) refl) none) in
                omega arith
          ]
        ]

    at_least_one : (ls : List ℕ) → falling (except x (except y (held (count_of_rank cards) 0))) 13 ≡ ls → 1 ≤ length ls
    at_least_one [] none = absurd (omega (arith, cards-enough cards set five, total-mono (count_of_rank cards) (λ r. cond (x == r) 2 0 + cond (y == r) 2 0) 13 (λ r l. covered r none l), total-add (λ r. cond (x == r) 2 0) (λ r. cond (y == r) 2 0) 13, at-most 2 x 13, at-most 2 y 13))
    at_least_one (z ∷ ls) e = omega arith
