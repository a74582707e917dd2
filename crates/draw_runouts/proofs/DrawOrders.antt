-- How often each of three sets wins, by how some numbers stand to another.
use Rattle.std.proofs.Common.{◌≡◌, ℕ, zero, suc, ◌+◌, ◌^◌, ◌<◌, ◌≤◌, ◌==◌, ◌&&◌, not, Bool, true, false, cond, List, [], ◌∷◌, length, set, take, get_or, refl, sym, ap, ◌∙◌, arith, inl, inr, Some, subst}
use Rattle.std.specs.Prelude.{nat_le, nat_lt, slice_get, slice_index, slice_index_or}
use Rattle.std.specs.List.{count_by}
use Rattle.std.specs.Option.{option_map}
use Rattle.std.proofs.lemmas.Bool.{cases_eq, cases_lt, eqb-true}
use Rattle.std.proofs.lemmas.List.{get_or-set_other, get_or-set_same, length-take, take_all}
use Rattle.std.proofs.lemmas.List.Sums.{count_by_more_yes, count_by_more_no, count_by-le-length, sum_by-cons}
use mathlib.Core.Bool.{true≢false}
use mir.Val.{bool_byte}
use Rattle.card_sets.specs.declared.games.Side.{Side}
use Rattle.runout_walk.specs.OneMore.{set_place}
use Rattle.draw_runouts.specs.LastHand.{AreStepped, AreSums, HaveRoom, count_both, is_above, is_below, is_equal, is_least, is_most, pick, times_at, top_at, top_of, winner_by, won_at, won_by}
use Rattle.draw_runouts.specs.Worth.{or_zero}
use Rattle.draw_runouts.specs.declared.winners.Winners.{Winners}
use Rattle.runout_walk.proofs.CallerLemmas.{count_same, get-here, get-other}

-- one member more
pub count_one_more : {X : Type 0} (p : X → Bool) (xs : List X) (i : ℕ) (d : X) → i < length xs → count_by p (take (i + 1) xs) ≡ count_by p (take i xs) + cond (p (get_or xs i d)) 1 0
count_one_more p xs i d h = go (p (get_or xs i d)) refl
  where
    go : (b : Bool) → p (get_or xs i d) ≡ b → count_by p (take (i + 1) xs) ≡ count_by p (take i xs) + cond b 1 0
    go true e = count_by_more_yes p xs i d h e
    go false e = count_by_more_no p xs i d h e ∙ omega arith

pub byte_is : (b : Bool) → bool_byte b ≡ cond b 1 0
byte_is true = refl
byte_is false = refl

pub byte_small : (b : Bool) → cond b 1 0 ≤ 1
byte_small true = omega arith
byte_small false = omega arith

-- no more so far than members were looked at
pub count_bound : {X : Type 0} (p : X → Bool) (xs : List X) (i : ℕ) → count_by p (take i xs) ≤ i
count_bound p xs i = omega (arith, count_by-le-length p (take i xs), length-take i xs)

not_both : (v t : ℕ) → nat_lt v t ≡ true → (v == t) ≡ true → ⊥
not_both v t a b = elim (cases_lt v t) [
  | inl l ↦ (let e : v ≡ t = eqb-true v t b in absurd (omega arith))
  | inr ge ↦ (let f : nat_lt v t ≡ false = grind arith in true≢false (sym a ∙ f))
]

one_of_three : (p q : Bool) → (p ≡ true → q ≡ true → ⊥) → cond p 1 0 + cond q 1 0 + cond (not p && not q) 1 0 ≡ 1
one_of_three true true h = absurd (h refl refl)
one_of_three true false h = refl
one_of_three false true h = refl
one_of_three false false h = refl

-- each number has one order
abbrev rest_of : ℕ → ℕ → Bool
rest_of top value = not (nat_lt value top) && not (value == top)

pub orders_are_all : (top : ℕ) (all : List ℕ) → count_by (λ v. nat_lt v top) all + count_by (λ v. v == top) all + count_by (rest_of top) all ≡ length all
orders_are_all top [] = refl
orders_are_all top (x ∷ xs) =
    omega (arith, orders_are_all top xs, one_of_three (nat_lt x top) (x == top) (not_both x top), sum_by-cons (λ v. cond (nat_lt v top) 1 0) x xs, sum_by-cons (λ v. cond (v == top) 1 0) x xs, sum_by-cons (λ v. cond (rest_of top v) 1 0) x xs)

zero_if : (t : Bool) → cond t zero zero ≡ zero
zero_if true = refl
zero_if false = refl

add_if : (t : Bool) (m n : ℕ) → cond t (m + n) 0 ≡ cond t m 0 + cond t n 0
add_if true m n = refl
add_if false m n = refl

zero_times : (w set : ℕ) → times_at w 0 set ≡ 0
zero_times w set = zero_if (w == set)

times_add : (w m n set : ℕ) → times_at w (m + n) set ≡ times_at w m set + times_at w n set
times_add w m n set = add_if (w == set) m n

-- a number counts once for the set that wins
won_once : (b e a set : ℕ) (p q : Bool) → (p ≡ true → q ≡ true → ⊥) → cond (pick b e a p q == set) 1 0 ≡ times_at b (cond p 1 0) set + times_at e (cond q 1 0) set + times_at a (cond (not p && not q) 1 0) set
won_once b e a set true true h = absurd (h refl refl)
won_once b e a set true false h = omega (arith, zero_times e set, zero_times a set)
won_once b e a set false true h = omega (arith, zero_times b set, zero_times a set)
won_once b e a set false false h = omega (arith, zero_times b set, zero_times e set)

-- how often a set wins, by how often each order comes
pub won_by_order : (top b e a set : ℕ) (all : List ℕ) → count_by (λ v. winner_by top b e a v == set) all ≡ times_at b (count_by (λ v. nat_lt v top) all) set + times_at e (count_by (λ v. v == top) all) set + times_at a (count_by (rest_of top) all) set
won_by_order top b e a set [] = omega (arith, zero_times b set, zero_times e set, zero_times a set)
won_by_order top b e a set (x ∷ xs) =
    let ih = won_by_order top b e a set xs in
    let one = won_once b e a set (nat_lt x top) (x == top) (not_both x top) in
    let p : times_at b (count_by (λ v. nat_lt v top) (x ∷ xs)) set ≡ times_at b (cond (nat_lt x top) 1 0) set + times_at b (count_by (λ v. nat_lt v top) xs) set =
    ap (λ n. times_at b n set) (sum_by-cons (λ v. cond (nat_lt v top) 1 0) x xs) ∙ times_add b (cond (nat_lt x top) 1 0) (count_by (λ v. nat_lt v top) xs) set in
    let q : times_at e (count_by (λ v. v == top) (x ∷ xs)) set ≡ times_at e (cond (x == top) 1 0) set + times_at e (count_by (λ v. v == top) xs) set =
    ap (λ n. times_at e n set) (sum_by-cons (λ v. cond (v == top) 1 0) x xs) ∙ times_add e (cond (x == top) 1 0) (count_by (λ v. v == top) xs) set in
    let r : times_at a (count_by (rest_of top) (x ∷ xs)) set ≡ times_at a (cond (rest_of top x) 1 0) set + times_at a (count_by (rest_of top) xs) set =
    ap (λ n. times_at a n set) (sum_by-cons (λ v. cond (rest_of top v) 1 0) x xs) ∙ times_add a (cond (rest_of top x) 1 0) (count_by (rest_of top) xs) set in
    omega (arith, sum_by-cons (λ v. cond (winner_by top b e a v == set) 1 0) x xs, ih, one, p, q, r)

-- neither below nor the same is above
rest_is : (top v : ℕ) → rest_of top v ≡ nat_lt top v
rest_is top v = elim (cases_lt v top) [
  | inl l ↦
      let x : nat_lt v top ≡ true = grind arith in
      let y : nat_lt top v ≡ false = grind arith in
      rw (x, y) refl
  | inr ge ↦
      let x : nat_lt v top ≡ false = grind arith in
      elim (cases_eq v top) [
        | inl e ↦
            let y : (v == top) ≡ true = grind arith in
            let z : nat_lt top v ≡ false = grind arith in
            rw (x, y, z) refl
        | inr ne ↦
            let y : (v == top) ≡ false = grind arith in
            let z : nat_lt top v ≡ true = grind arith in
            rw (x, y, z) refl
      ]
]

above_is : (top : ℕ) (all : List ℕ) → count_by (λ v. nat_lt top v) all ≡ count_by (rest_of top) all
above_is top all = count_same (λ v. nat_lt top v) (rest_of top) all (λ v m. sym (rest_is top v))

-- what stands at a place of a list of rivals
pub won_here : (rivals : List Winners) (pot value : ℕ) (r : Winners) → slice_get rivals pot ≡ Some r → won_at rivals pot value ≡ won_by r value
won_here rivals pot value r found = ap (λ o. or_zero (option_map (λ r. won_by r value) o)) found

pub top_here : (rivals : List Winners) (pot : ℕ) (r : Winners) → slice_get rivals pot ≡ Some r → top_at rivals pot ≡ r.top
top_here rivals pot r found = ap (λ o. or_zero (option_map top_of o)) found

won_same : (rivals : List Winners) (i value : ℕ) (r : Winners) → i < length rivals → won_at (set rivals i r) i value ≡ won_by r value
won_same rivals i value r inside = won_here (set rivals i r) i value r (get-here rivals i r inside)

won_other : (rivals : List Winners) (i p value : ℕ) (r : Winners) → (p ≡ i → ⊥) → won_at (set rivals i r) p value ≡ won_at rivals p value
won_other rivals i p value r ne = ap (λ o. or_zero (option_map (λ r. won_by r value) o)) (get-other rivals i p r ne)

-- what holds of who wins the pots below one holds of one pot more
pub more_won : (P : ℕ → ℕ → ℕ → Type 0) (rivals : List Winners) (pot i : ℕ) (r : Winners) → i ≡ pot → i < length rivals → ((p value : ℕ) → p < pot → P p value (won_at rivals p value)) → ((value : ℕ) → P pot value (won_by r value))
    → (p value : ℕ) → p ≤ pot → P p value (won_at (set rivals i r) p value)
more_won P rivals pot i r at inside was here p value l = elim (cases_lt p pot) [
  | inl lt ↦ subst (P p value) (sym (won_other rivals i p value r (λ e. omega arith))) (was p value lt)
  | inr ge ↦
      let same : i ≡ p = omega arith in
      let first : pot ≡ p = omega arith in
      let Q : ℕ → Type 0 = λ k. P p value (won_at (set rivals i r) k value) in
      let R : ℕ → Type 0 = λ k. P k value (won_by r value) in
      subst Q same (subst (P p value) (sym (won_same rivals i value r inside)) (subst R first (here value)))
]

-- sums that aren't stepped yet, one pot more, and all pots
pub stepped_none : (test : ℕ → Bool) (sums : List ℕ) → AreStepped test 0 sums sums
stepped_none test sums = record { done = λ p l. absurd (omega arith); later = λ p l. refl; same = refl }

pub stepped_more : (test : ℕ → Bool) (pot place times : ℕ) (old mid new : List ℕ) → place ≡ pot → times ≡ cond (test pot) 1 0 → ((other : ℕ) → slice_index new other ≡ slice_index mid other + cond (place == other) times 0) → length new ≡ length mid
    → AreStepped test pot old mid → AreStepped test (pot + 1) old new
stepped_more test pot place times old mid new at one put size was = record {
  done = λ p l. elim (cases_lt p pot) [
    | inl lt ↦ (let zero = none p (λ e. omega arith) in omega (arith, put p, zero, was.done p lt))
    | inr ge ↦ (
        let here : p ≡ pot = omega arith in
        let t : (place == p) ≡ true = grind arith in
        let all : cond (place == p) times 0 ≡ times = rw t refl in
        let value : ℕ → ℕ = λ k. cond (test k) 1 0 in
        let same : value p ≡ value pot = ap value here in
        omega (arith, put p, all, one, same, was.later p ge))
  ];
  later = λ p l. (let zero = none p (λ e. omega arith) in omega (arith, put p, zero, was.later p (omega arith)));
  same = size ∙ was.same;
}
  where
    none : (p : ℕ) → (place ≡ p → ⊥) → cond (place == p) times 0 ≡ 0
    none p ne = let f : (place == p) ≡ false = grind arith in rw f refl

pub stepped_all : (test : ℕ → Bool) (pot pots : ℕ) (old new : List ℕ) → pot ≡ pots → AreStepped test pot old new → AreStepped test pots old new
stepped_all test pot pots old new e was = let P : ℕ → Type 0 = λ n. AreStepped test n old new in subst P e was

-- there is room for what is stepped next
pub stepped_room : (test : ℕ → Bool) (pot pots place times : ℕ) (old new : List ℕ) (b : Bool) → place ≡ pot → pot < pots → times ≡ cond b 1 0 → HaveRoom pots old → AreStepped test pot old new → (place < length new) × (slice_index new place + times < 2 ^ 32)
stepped_room test pot pots place times old new b at l one room was =
    let places = room.places in
    let same = was.same in
    let value : ℕ → ℕ = λ k. slice_index new k in
    let there : value place ≡ value pot = ap value at in
    (omega (arith, places, same), omega (arith, there, was.later pot (omega arith), room.fits pot l, one, byte_small b))

-- sums of one number more, and of all
pub sums_more : (test : ℕ → ℕ → Bool) (pots : ℕ) (values : List ℕ) (i value : ℕ) (sums new : List ℕ) → i < length values → value ≡ get_or values i 0 → AreSums test pots (take i values) sums → AreStepped (test value) pots sums new → AreSums test pots (take (i + 1) values) new
sums_more test pots values i value sums new inside is was step = record {
  counts = λ pot l.
      let passes : ℕ → ℕ = λ v. cond (test v pot) 1 0 in
      let one : passes value ≡ passes (get_or values i 0) = ap passes is in
      let more : slice_index new pot ≡ slice_index sums pot + passes value = step.done pot l in
      let next : count_by (λ v. test v pot) (take (i + 1) values) ≡ count_by (λ v. test v pot) (take i values) + passes (get_or values i 0) = count_one_more (λ v. test v pot) values i 0 inside in
      let so_far : slice_index sums pot ≡ count_by (λ v. test v pot) (take i values) = was.counts pot l in
      omega (arith, more, one, next, so_far);
  ten = step.same ∙ was.ten;
}

pub sums_all : (test : ℕ → ℕ → Bool) (pots : ℕ) (values : List ℕ) (i : ℕ) (sums : List ℕ) → length values ≤ i → AreSums test pots (take i values) sums → AreSums test pots values sums
sums_all test pots values i sums end was = let P : List ℕ → Type 0 = λ l. AreSums test pots l sums in subst P (take_all i values end) was

pub sums_room : (test : ℕ → ℕ → Bool) (pots : ℕ) (values : List ℕ) (i : ℕ) (sums : List ℕ) → pots ≤ 10 → i < length values → length values < 2 ^ 32 → AreSums test pots (take i values) sums → HaveRoom pots sums
sums_room test pots values i sums ten inside few was = record {
  places = (let size = was.ten in omega arith);
  fits = λ pot l. omega (arith, was.counts pot l, count_bound (λ v. test v pot) values i, inside, few);
}

-- of fewer pots
pub sums_fewer : (test : ℕ → ℕ → Bool) (n pots : ℕ) (values sums : List ℕ) → pots ≤ n → AreSums test n values sums → AreSums test pots values sums
sums_fewer test n pots values sums few was = record { counts = λ pot l. was.counts pot (omega arith); ten = was.ten }

-- a number is at most another or above it
one_of_two : (v t : ℕ) → cond (nat_le v t) 1 0 + cond (nat_lt t v) 1 0 ≡ 1
one_of_two v t = elim (cases_lt t v) [
  | inl l ↦
      let x : nat_lt t v ≡ true = grind arith in
      let y : nat_le v t ≡ false = grind arith in
      rw (x, y) refl
  | inr ge ↦
      let x : nat_lt t v ≡ false = grind arith in
      let y : nat_le v t ≡ true = grind arith in
      rw (x, y) refl
]

most_or_above : (top : ℕ) (all : List ℕ) → count_by (λ v. nat_le v top) all + count_by (λ v. nat_lt top v) all ≡ length all
most_or_above top [] = refl
most_or_above top (x ∷ xs) = omega (arith, most_or_above top xs, one_of_two x top, sum_by-cons (λ v. cond (nat_le v top) 1 0) x xs, sum_by-cons (λ v. cond (nat_lt top v) 1 0) x xs)

least_or_below : (top : ℕ) (all : List ℕ) → count_by (λ v. nat_le top v) all + count_by (λ v. nat_lt v top) all ≡ length all
least_or_below top [] = refl
least_or_below top (x ∷ xs) = omega (arith, least_or_below top xs, one_of_two top x, sum_by-cons (λ v. cond (nat_le top v) 1 0) x xs, sum_by-cons (λ v. cond (nat_lt v top) 1 0) x xs)

-- each number is below the greatest of the others, the same or above
pub orders_total : (rivals : List Winners) (pot : ℕ) (values : List ℕ) → count_by (λ v. is_below rivals v pot) values + count_by (λ v. is_equal rivals v pot) values + count_by (λ v. is_above rivals v pot) values ≡ length values
orders_total rivals pot values = let top : ℕ = top_at rivals pot in omega (arith, above_is top values, orders_are_all top values)

-- the two sums make the three
pub record ThreeOf (rivals : List Winners) (pot most least : ℕ) (values : List ℕ) : Type 0 where
  pub below : count_by (λ v. is_below rivals v pot) values + least ≡ length values
  pub above : count_by (λ v. is_above rivals v pot) values + most ≡ length values
  pub equal : count_by (λ v. is_below rivals v pot) values + count_by (λ v. is_equal rivals v pot) values + count_by (λ v. is_above rivals v pot) values ≡ length values

pub three_of : (rivals : List Winners) (pot most least : ℕ) (values : List ℕ) → most ≡ count_by (λ v. is_most rivals v pot) values → least ≡ count_by (λ v. is_least rivals v pot) values → ThreeOf rivals pot most least values
three_of rivals pot most least values m l =
    let top : ℕ = top_at rivals pot in
    record {
      below = omega (arith, l, least_or_below top values);
      above = omega (arith, m, most_or_above top values);
      equal = orders_total rivals pot values;
    }

-- how often each set wins a pot, by how often each order comes
pub orders_won : (rivals : List Winners) (pot set : ℕ) (r : Winners) (win : ℕ → ℕ) (values : List ℕ) (below equal above : ℕ) → slice_get rivals pot ≡ Some r → ((value : ℕ) → won_at rivals pot value ≡ win value)
    → below ≡ count_by (λ v. is_below rivals v pot) values → equal ≡ count_by (λ v. is_equal rivals v pot) values → above ≡ count_by (λ v. is_above rivals v pot) values
    → times_at r.below below set + times_at r.equal equal set + times_at r.above above set ≡ count_by (λ value. win value == set) values
orders_won rivals pot set r win values below equal above found wins b e a =
    let top : top_at rivals pot ≡ r.top = top_here rivals pot r found in
    let p : below ≡ count_by (λ v. nat_lt v r.top) values = b ∙ ap (λ t. count_by (λ v. nat_lt v t) values) top in
    let q : equal ≡ count_by (λ v. v == r.top) values = e ∙ ap (λ t. count_by (λ v. v == t) values) top in
    let s : above ≡ count_by (rest_of r.top) values = a ∙ ap (λ t. count_by (λ v. nat_lt t v) values) top ∙ above_is r.top values in
    ap (λ n. times_at r.below n set + times_at r.equal equal set + times_at r.above above set) p
    ∙ ap (λ n. times_at r.below (count_by (λ v. nat_lt v r.top) values) set + times_at r.equal n set + times_at r.above above set) q
    ∙ ap (λ n. times_at r.below (count_by (λ v. nat_lt v r.top) values) set + times_at r.equal (count_by (λ v. v == r.top) values) set + times_at r.above n set) s
    ∙ sym (won_by_order r.top r.below r.equal r.above set values)
    ∙ count_same (λ value. won_by r value == set) (λ value. win value == set) values (λ value m. ap (λ k. k == set) (sym (won_here rivals pot value r found) ∙ wins value))

-- one row is changed
pub other_row : (rows : List (List ℕ)) (i j place : ℕ) (new : List ℕ) → (j ≡ i → ⊥) → slice_index (slice_index_or (set rows i new) j []) place ≡ slice_index (slice_index_or rows j []) place
other_row rows i j place new ne = ap (λ row. slice_index row place) (get_or-set_other rows i j new [] ne)

pub same_row : (rows : List (List ℕ)) (i place : ℕ) (new : List ℕ) → i < length rows → slice_index (slice_index_or (set rows i new) i []) place ≡ slice_index new place
same_row rows i place new l = ap (λ row. slice_index row place) (get_or-set_same rows i new [] l)

-- numbers of two lists that pass together
pub both_same : (p q : ℕ → ℕ → Bool) (values lows : List ℕ) → ((value low : ℕ) → p value low ≡ q value low) → count_both p values lows ≡ count_both q values lows
both_same p q [] lows same = refl
both_same p q (value ∷ values) [] same = refl
both_same p q (value ∷ values) (low ∷ lows) same = ap (λ b. cond b 1 0 + count_both p values lows) (same value low) ∙ ap (λ n. cond (q value low) 1 0 + n) (both_same p q values lows same)

-- one pair more
pub both_more : (p : ℕ → ℕ → Bool) (values lows : List ℕ) (i d : ℕ) → i < length values → i < length lows
    → count_both p (take (i + 1) values) (take (i + 1) lows) ≡ count_both p (take i values) (take i lows) + cond (p (get_or values i d) (get_or lows i d)) 1 0
both_more p [] lows i d h k = absurd (omega arith)
both_more p (value ∷ values) [] i d h k = absurd (omega arith)
both_more p (value ∷ values) (low ∷ lows) zero d h k = omega arith
both_more p (value ∷ values) (low ∷ lows) (suc i) d h k =
    let next : suc i + 1 ≡ suc (i + 1) = omega arith in
    rw next (omega (arith, both_more p values lows i d (omega arith) (omega arith)))

-- no more pairs than numbers
if_one : (b : Bool) → cond b 1 0 ≤ 1
if_one true = omega arith
if_one false = omega arith

pub both_most : (p : ℕ → ℕ → Bool) (values lows : List ℕ) → count_both p values lows ≤ length values
both_most p [] lows = omega arith
both_most p (value ∷ values) [] = omega arith
both_most p (value ∷ values) (low ∷ lows) = omega (arith, both_most p values lows, if_one (p value low))

-- how often each place comes on a side, by who wins both
pub sides_won : (side : Side) (highs lows : List Winners) (pot place : ℕ) (high_win low_win : ℕ → ℕ) (values low_values : List ℕ) → ((value : ℕ) → won_at highs pot value ≡ high_win value) → ((value : ℕ) → won_at lows pot value ≡ low_win value)
    → count_both (λ value low. set_place side (won_at highs pot value) (won_at lows pot low) == place) values low_values ≡ count_both (λ value low. set_place side (high_win value) (low_win low) == place) values low_values
sides_won side highs lows pot place high_win low_win values low_values h l =
    both_same (λ value low. set_place side (won_at highs pot value) (won_at lows pot low) == place) (λ value low. set_place side (high_win value) (low_win low) == place) values low_values
    (λ value low. ap (λ k. set_place side k (won_at lows pot low) == place) (h value) ∙ ap (λ k. set_place side (high_win value) k == place) (l low))
