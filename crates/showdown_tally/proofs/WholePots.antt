-- A pot is given out whole, and each runout ends in one way.
use Rattle.std.proofs.Common.{◌≡◌, ℕ, zero, suc, ◌+◌, ◌*◌, ◌/◌, ◌<◌, ◌≤◌, ◌==◌, ◌&&◌, ◌||◌, not, Bool, true, false, cond, refl, sym, ap, ◌∙◌, inl, inr, arith, List, [], ◌∷◌, length, Option, Some}
use mathlib.Core.Bool.{true≢false}
use Rattle.std.specs.Prelude.{filter, count_by, nat_lt, is_some}
use Rattle.std.specs.List.{list_all, sum_by}
use Rattle.std.specs.Cmp.Lexicographic.{slice_cmp}
use Rattle.std.specs.Ordering.{nat_cmp, is_gt, ordering_reverse}
use Rattle.std.specs.declared.cmp.Ordering.{Ordering}
use Rattle.std.specs.declared.cmp.Ordering.TheVariants.{Less, Equal, Greater}
use Rattle.std.proofs.lemmas.Bool.{cases_eq, and_parts}
use Rattle.std.proofs.lemmas.Cmp.{nat_list_cmp_total, upto, tied_itself}
use Rattle.std.proofs.lemmas.List.Sums.{sum_by-cons}
use Rattle.card_sets.specs.declared.games.Side.{Side}
use Rattle.card_sets.specs.declared.games.Side.TheVariants.{High}
use Rattle.showdown_tally.specs.Laws.{EndsOneWay}
use Rattle.showdown_tally.specs.Showdown.{Showdown, is_among, is_beaten_by, winners_of, winners, plays, wins, ties, loses}
use Rattle.showdown_tally.proofs.MaskWinners.{some_among}

-- what is as good as one hand or less is as good as a better one or less
all_upto : (w : ℕ → List ℕ) (m x : ℕ) (xs : List ℕ) → is_gt (slice_cmp nat_cmp (w m) (w x)) ≡ false → list_all (λ j. not (is_gt (slice_cmp nat_cmp (w j) (w m)))) xs ≡ true → list_all (λ j. not (is_gt (slice_cmp nat_cmp (w j) (w x)))) xs ≡ true
all_upto w m x [] le all = refl
all_upto w m x (y ∷ ys) le all =
    let two = and_parts (not (is_gt (slice_cmp nat_cmp (w y) (w m)))) (list_all (λ j. not (is_gt (slice_cmp nat_cmp (w j) (w m)))) ys) all in
    let first : is_gt (slice_cmp nat_cmp (w y) (w x)) ≡ false = upto nat_list_cmp_total (w y) (w m) (w x) (off _ two.0) le in
    rw first (all_upto w m x ys le two.1)
  where
    off : (b : Bool) → not b ≡ true → b ≡ false
    off true e = sym e
    off false e = refl

turned : (o p : Ordering) → is_gt o ≡ true → p ≡ ordering_reverse o → is_gt p ≡ false
turned Less p g e = absurd (true≢false (sym g))
turned Equal p g e = absurd (true≢false (sym g))
turned Greater p g e = ap is_gt e

-- some hand isn't beaten by any
best_among : (w : ℕ → List ℕ) (x : ℕ) (xs : List ℕ) → (m : ℕ) × (is_among m (x ∷ xs) ≡ true) × (list_all (λ j. not (is_gt (slice_cmp nat_cmp (w j) (w m)))) (x ∷ xs) ≡ true)
best_among w x [] =
    let same : (x == x) ≡ true = grind arith in
    let self : is_gt (slice_cmp nat_cmp (w x) (w x)) ≡ false = ap is_gt (tied_itself nat_list_cmp_total (w x)) in
    (x, rw same refl, rw self refl)
best_among w x (y ∷ ys) =
    let rest = best_among w y ys in
    elim (is_gt (slice_cmp nat_cmp (w x) (w rest.0))) as (λ b. is_gt (slice_cmp nat_cmp (w x) (w rest.0)) ≡ b → (m : ℕ) × (is_among m (x ∷ y ∷ ys) ≡ true) × (list_all (λ j. not (is_gt (slice_cmp nat_cmp (w j) (w m)))) (x ∷ y ∷ ys) ≡ true)) [
      | true ↦ λ g.
          let same : (x == x) ≡ true = grind arith in
          let self : is_gt (slice_cmp nat_cmp (w x) (w x)) ≡ false = ap is_gt (tied_itself nat_list_cmp_total (w x)) in
          let back : is_gt (slice_cmp nat_cmp (w rest.0) (w x)) ≡ false = turned (slice_cmp nat_cmp (w x) (w rest.0)) (slice_cmp nat_cmp (w rest.0) (w x)) g (nat_list_cmp_total.antisymm (w rest.0) (w x)) in
          (x, rw same refl, rw self (all_upto w rest.0 x (y ∷ ys) back rest.2))
      | false ↦ λ g. (rest.0, or-true (x == rest.0) _ rest.1, rw g rest.2)
    ] refl
  where
    or-true : (a b : Bool) → b ≡ true → (a || b) ≡ true
    or-true true b e = refl
    or-true false b e = e

-- where one of the list passes, some pass
some_pass : (p : ℕ → Bool) (m : ℕ) (xs : List ℕ) → is_among m xs ≡ true → p m ≡ true → 0 < length (filter p xs)
some_pass p m [] among pass = absurd (true≢false (sym among))
some_pass p m (x ∷ xs) among pass = elim (cases_eq x m) [
  | inl e ↦ let here : p x ≡ true = ap p e ∙ pass in rw here (omega arith)
  | inr ne ↦
      let f : (x == m) ≡ false = grind arith in
      let later : is_among m xs ≡ true = rw f at among in
      let ih : 0 < length (filter p xs) = some_pass p m xs later pass in
      elim (p x) as (λ b. 0 < length (cond b (x ∷ filter p xs) (filter p xs))) [ true ↦ omega arith | false ↦ ih ]
]

-- a hand is among those that pass where it is one of them and passes
pub among_passed : (p : ℕ → Bool) (h : ℕ) (xs : List ℕ) → is_among h (filter p xs) ≡ (p h && is_among h xs)
among_passed p h [] = elim (p h) as (λ b. false ≡ (b && false)) [ true ↦ refl | false ↦ refl ]
among_passed p h (x ∷ xs) =
    let ih : is_among h (filter p xs) ≡ (p h && is_among h xs) = among_passed p h xs in
    elim (cases_eq x h) [
      | inl e ↦
          let t : (h == h) ≡ true = grind arith in
          rw (e, t) (elim (p h) as (λ b. is_among h (filter p xs) ≡ (b && is_among h xs) → is_among h (cond b (h ∷ filter p xs) (filter p xs)) ≡ (b && true)) [
            | true ↦ λ ih. rw t refl
            | false ↦ λ ih. ih
          ] ih)
      | inr ne ↦
          let f : (x == h) ≡ false = grind arith in
          rw f (elim (p x) as (λ b. is_among h (cond b (x ∷ filter p xs) (filter p xs)) ≡ (p h && is_among h xs)) [
            | true ↦ rw f ih
            | false ↦ ih
          ])
    ]

all_still : (x : ℕ) (hands xs : List ℕ) → list_all (λ h. is_among h hands) xs ≡ true → list_all (λ h. is_among h (x ∷ hands)) xs ≡ true
all_still x hands [] all = refl
all_still x hands (y ∷ ys) all =
    let two = and_parts (is_among y hands) (list_all (λ h. is_among h hands) ys) all in
    rw two.0 (rw (or-true (x == y)) (all_still x hands ys two.1))
  where
    or-true : (a : Bool) → (a || true) ≡ true
    or-true true = refl
    or-true false = refl

pub all_among : (hands : List ℕ) → list_all (λ h. is_among h hands) hands ≡ true
all_among [] = refl
all_among (x ∷ xs) = let t : (x == x) ≡ true = grind arith in rw t (all_still x xs xs (all_among xs))

-- where each of those that pass has so much, all have that much for each of them
pub sum_passed : (p : ℕ → Bool) (f : ℕ → ℕ) (u : ℕ) (hands xs : List ℕ) → ((h : ℕ) → f h ≡ cond (is_among h (filter p hands)) u 0) → list_all (λ h. is_among h hands) xs ≡ true → sum_by f xs ≡ length (filter p xs) * u
sum_passed p f u hands [] each all = omega arith
sum_passed p f u hands (x ∷ xs) each all =
    let two = and_parts (is_among x hands) (list_all (λ h. is_among h hands) xs) all in
    let ih : sum_by f xs ≡ length (filter p xs) * u = sum_passed p f u hands xs each two.1 in
    let here : f x ≡ cond (p x) u 0 = each x ∙ ap (λ b. cond b u 0) (among_passed p x hands ∙ rw two.0 (and-true (p x))) in
    sum_by-cons f x xs ∙ rw (here, ih) (elim (p x) as (λ b. cond b u 0 + length (filter p xs) * u ≡ length (cond b (x ∷ filter p xs) (filter p xs)) * u) [ true ↦ omega arith | false ↦ omega arith ])
  where
    and-true : (a : Bool) → (a && true) ≡ a
    and-true true = refl
    and-true false = refl

-- equal parts of up to ten winners are the whole
pub whole_parts : (k : ℕ) → 0 < k → k ≤ 10 → k * (5040 / k) ≡ 5040
whole_parts zero some few = absurd (omega arith)
whole_parts (suc zero) some few = refl
whole_parts (suc (suc zero)) some few = refl
whole_parts (suc (suc (suc zero))) some few = refl
whole_parts (suc (suc (suc (suc zero)))) some few = refl
whole_parts (suc (suc (suc (suc (suc zero))))) some few = refl
whole_parts (suc (suc (suc (suc (suc (suc zero)))))) some few = refl
whole_parts (suc (suc (suc (suc (suc (suc (suc zero))))))) some few = refl
whole_parts (suc (suc (suc (suc (suc (suc (suc (suc zero)))))))) some few = refl
whole_parts (suc (suc (suc (suc (suc (suc (suc (suc (suc zero))))))))) some few = refl
whole_parts (suc (suc (suc (suc (suc (suc (suc (suc (suc (suc zero)))))))))) some few = refl
whole_parts (suc (suc (suc (suc (suc (suc (suc (suc (suc (suc (suc k))))))))))) some few = absurd (omega arith)

-- a list of hands that all have a value has a winner
pub some_winner : (v : ℕ → Option (List ℕ)) (w : ℕ → List ℕ) (hands : List ℕ) → ((h : ℕ) → v h ≡ Some (w h)) → 0 < length hands → 0 < length (winners_of High v hands)
some_winner v w [] values some = absurd (omega arith)
some_winner v w (x ∷ xs) values some =
    let top = best_among w x xs in
    some_pass (λ i. is_some (v i) && list_all (λ j. not (is_beaten_by High (v i) (v j))) (x ∷ xs)) top.0 (x ∷ xs) top.1 (unbeaten (x ∷ xs) top.0 top.2)
  where
    same : (ys : List ℕ) (m : ℕ) → list_all (λ j. not (is_gt (slice_cmp nat_cmp (w j) (w m)))) ys ≡ true → list_all (λ j. not (is_beaten_by High (Some (w m)) (v j))) ys ≡ true
    same [] m all = refl
    same (y ∷ ys) m all =
        let two = and_parts (not (is_gt (slice_cmp nat_cmp (w y) (w m)))) (list_all (λ j. not (is_gt (slice_cmp nat_cmp (w j) (w m)))) ys) all in
        rw (values y, two.0) (same ys m two.1)

    unbeaten : (ys : List ℕ) (m : ℕ) → list_all (λ j. not (is_gt (slice_cmp nat_cmp (w j) (w m)))) ys ≡ true → (is_some (v m) && list_all (λ j. not (is_beaten_by High (v m) (v j))) ys) ≡ true
    unbeaten ys m all = rw (values m) (same ys m all)

-- one runout ends in one of the three ways for a hand that plays
one_way : (b a : Bool) (n : ℕ) → (a ≡ true → 0 < n) → b ≡ true → cond (b && a && (n == 1)) 1 0 + cond (b && a && nat_lt 1 n) 1 0 + cond (b && not a) 1 0 ≡ 1
one_way false a n some play = absurd (true≢false (sym play))
one_way true false n some play = refl
one_way true true n some play = elim (cases_eq n 1) [
  | inl e ↦
      let t : (n == 1) ≡ true = grind arith in
      let f : nat_lt 1 n ≡ false = grind arith in
      rw (t, f) refl
  | inr ne ↦
      let pos : 0 < n = some refl in
      let f : (n == 1) ≡ false = grind arith in
      let t : nat_lt 1 n ≡ true = grind arith in
      rw (f, t) refl
]

counted_once : (deal : Showdown) (all : List (List (List ℕ))) (pot hand : ℕ) (side : Side) → plays deal pot hand side ≡ true
    → count_by (wins deal pot hand side) all + count_by (ties deal pot hand side) all + count_by (loses deal pot hand side) all ≡ length all
counted_once deal [] pot hand side play = refl
counted_once deal (r ∷ rs) pot hand side play =
    let ih = counted_once deal rs pot hand side play in
    let one = one_way (plays deal pot hand side) (is_among hand (winners deal pot side r)) (length (winners deal pot side r)) (some_among hand (winners deal pot side r)) play in
    let a = sum_by-cons (λ r. cond (wins deal pot hand side r) 1 0) r rs in
    let b = sum_by-cons (λ r. cond (ties deal pot hand side r) 1 0) r rs in
    let c = sum_by-cons (λ r. cond (loses deal pot hand side r) 1 0) r rs in
    omega arith

pub none_counted : {X : Type 0} (p : X → Bool) (xs : List X) → ((x : X) → p x ≡ false) → count_by p xs ≡ 0
none_counted p [] none = refl
none_counted p (x ∷ xs) none =
    let ih : count_by p xs ≡ 0 = none_counted p xs none in
    sum_by-cons (λ x. cond (p x) 1 0) x xs ∙ rw (none x, ih) refl

-- the wins, ties and losses of a hand
pub cells-EndsOneWay : (deal : Showdown) (all : List (List (List ℕ))) (pot hand : ℕ) (side : Side) → EndsOneWay deal all pot hand side
cells-EndsOneWay deal all pot hand side = record {
  playing = counted_once deal all pot hand side;
  not_playing = λ out. rw (none_counted (wins deal pot hand side) all (λ r. ap (λ b. b && is_among hand (winners deal pot side r) && (length (winners deal pot side r) == 1)) out), none_counted (ties deal pot hand side) all (λ r. ap (λ b. b && is_among hand (winners deal pot side r) && nat_lt 1 (length (winners deal pot side r))) out), none_counted (loses deal pot hand side) all (λ r. ap (λ b. b && not (is_among hand (winners deal pot side r))) out)) refl;
}
