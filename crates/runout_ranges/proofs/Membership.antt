-- Which lists of sets are runouts, and that none is listed twice.
use Rattle.std.proofs.Common.{◌≡◌, ℕ, zero, suc, ◌+◌, ◌≤◌, List, [], ◌∷◌, ◌++◌, map, refl, sym, ap, ◌∙◌, subst, inl, inr, append_assoc, length, arith, Bool, true, false, cond, ◌||◌, ◌&&◌, ◌==◌, not}
use Rattle.std.specs.Prelude.{All}
use Rattle.std.specs.List.{flat_map, list_all}
use Rattle.std.proofs.lemmas.List.{map-append}
use Rattle.std.proofs.lemmas.List.Elements.{All-nil, All-cons, All-head, All-tail}
use mathlib.Core.Bool.{true≢false}
use Rattle.std.proofs.lemmas.Bool.{cases_eq}
use Rattle.card_sets.specs.Cards.{has_card, IsRising, RisingFrom}
use Rattle.card_sets.specs.Choose.{choose}
use Rattle.card_sets.specs.Disjoint.{apart, all_apart}
use Rattle.card_sets.specs.Rising.{has_card-low}
use Rattle.runout_ranges.specs.Runouts.{runouts, left_by, HasMember}
use Rattle.runout_ranges.specs.Walks.{length-runout}
use Rattle.runout_ranges.specs.Ways.{Within, Fills, NoneTwice}
use Rattle.runout_ranges.proofs.ListPlaces.{split, split_map, split_blocks, place}
use Rattle.runout_ranges.proofs.NextChoice.{place_choice, choose_within, choose_length, choose_rising, within_tail, within_later}
use Rattle.runout_ranges.proofs.ListingLength.{rising_left}

-- ---- members of lists that are made of others
has_left : {X : Type 0} (xs ys : List X) (x : X) → HasMember xs x → HasMember (xs ++ ys) x
has_left xs ys x m = (m.0, m.1 ++ ys, ap (λ l. l ++ ys) m.2 ∙ append_assoc m.0 (x ∷ m.1) ys)

has_right : {X : Type 0} (xs ys : List X) (x : X) → HasMember ys x → HasMember (xs ++ ys) x
has_right xs ys x m = (xs ++ m.0, m.1, ap (λ l. xs ++ l) m.2 ∙ sym (append_assoc xs m.0 (x ∷ m.1)))

has_map : {X Y : Type 0} (g : X → Y) (xs : List X) (x : X) → HasMember xs x → HasMember (map g xs) (g x)
has_map g xs x m = (map g m.0, map g m.1, ap (λ l. map g l) m.2 ∙ map-append g m.0 (x ∷ m.1))

has_blocks : {X Y : Type 0} (g : X → List Y) (front : List X) (x : X) (back : List X) (y : Y) → HasMember (g x) y → HasMember (flat_map g (front ++ x ∷ back)) y
has_blocks g [] x back y m = has_left (g x) (flat_map g back) y m
has_blocks g (z ∷ front) x back y m = has_right (g z) (flat_map g (front ++ x ∷ back)) y (has_blocks g front x back y m)

-- ---- choices
or_true : (a b : Bool) → b ≡ true → (a || b) ≡ true
or_true true b h = refl
or_true false b h = h

-- each rising list of cards of a rising list is a choice of it
pub choose_has : (low : ℕ) (xs at : List ℕ) → RisingFrom low xs → RisingFrom low at → Within at xs → HasMember (choose (length at) xs) at
choose_has low xs [] rx ra w = ([], [], refl)
choose_has low [] (a ∷ at) rx ra w =
    let is : (a == a) ≡ true = grind arith in
    let first : has_card (a ∷ at) a ≡ true = rw is refl in
    absurd (true≢false (sym (w a first)))
choose_has low (c ∷ cs) (a ∷ at) rx ra w = elim (cases_eq a c) [
  | inl e ↦
      let P : ℕ → Type 0 = λ n. Within (a ∷ at) (n ∷ cs) in
      let Q : ℕ → Type 0 = λ n. RisingFrom (n + 1) cs in
      let R : ℕ → Type 0 = λ n. HasMember (choose (suc (length at)) (n ∷ cs)) (a ∷ at) in
      let later = choose_has (a + 1) cs at (subst Q (sym e) rx.2) ra.2 (within_tail a at cs ra.2 (subst P (sym e) w)) in
      subst R e (has_left (map (λ rest. a ∷ rest) (choose (length at) cs)) (choose (suc (length at)) cs) (a ∷ at) (has_map (λ rest. a ∷ rest) (choose (length at) cs) at later))
  | inr ne ↦
      let l = within_later low a c at cs ne (omega arith, ra.1, ra.2) rx.2 w in
      let up : c + 1 ≤ a = omega (arith, l.0) in
      has_right (map (λ rest. c ∷ rest) (choose (length at) cs)) (choose (suc (length at)) cs) (a ∷ at) (choose_has (c + 1) cs (a ∷ at) rx.2 (up, ra.1, ra.2) l.1)
]

-- no choice of a rising list is listed twice
pub choose_once : (low n : ℕ) (xs : List ℕ) → RisingFrom low xs → NoneTwice (choose n xs)
choose_once low zero xs r at [] back e m = one at back m.0 m.1 (ap (λ l. at ∷ l) (sym m.2) ∙ sym e)
  where
    one : (at : List ℕ) (back front after : List (List ℕ)) → at ∷ (front ++ at ∷ after) ≡ [] ∷ [] → ⊥
    one at back [] after e = cc
    one at back (x ∷ front) after e = cc
choose_once low zero xs r at (x ∷ []) back e m = cc
choose_once low zero xs r at (x ∷ y ∷ front) back e m = cc
choose_once low (suc n) [] r at [] back e m = cc
choose_once low (suc n) [] r at (x ∷ front) back e m = cc
choose_once low (suc n) (c ∷ cs) r at front back e m =
    let out : has_card cs c ≡ false = has_card-low (c + 1) cs c r.2 (omega arith) in
    elim (place_choice n c cs at front back e) [
      | inl p ↦ elim (split (map (λ rest. c ∷ rest) p.2) (choose (suc n) cs) m.0 at m.1 (sym p.5 ∙ m.2)) [
        | inl s ↦
            let again = split_map (λ rest. c ∷ rest) p.2 m.0 at s.0 s.1 in
            let same : again.1 ≡ p.0 = cc (again.4, p.3) in
            choose_once (c + 1) n cs r.2 p.0 p.1 p.2 p.4 (again.0, again.2, again.3 ∙ ap (λ v. again.0 ++ v ∷ again.2) same)
        | inr s ↦
            let is : (c == c) ≡ true = grind arith in
            let t : has_card (c ∷ p.0) c ≡ true = rw is refl in
            let here : choose (suc n) cs ≡ s.0 ++ (c ∷ p.0) ∷ m.1 = s.1 ∙ ap (λ v. s.0 ++ v ∷ m.1) p.3 in
            true≢false (sym (choose_within (suc n) cs (c ∷ p.0) s.0 m.1 here c t) ∙ out)
      ]
      | inr p ↦ choose_once (c + 1) (suc n) cs r.2 at p.0 back p.1 m
    ]

-- ---- runouts
-- no runout is listed twice
pub runouts_once : (counts unseen : List ℕ) → IsRising unseen → NoneTwice (runouts unseen counts)
runouts_once [] unseen r sets [] back e m = one sets m.0 m.1 (ap (λ l. sets ∷ l) (sym m.2) ∙ sym e)
  where
    one : (at : List (List ℕ)) (front after : List (List (List ℕ))) → at ∷ (front ++ at ∷ after) ≡ [] ∷ [] → ⊥
    one at [] after e = cc
    one at (x ∷ front) after e = cc
runouts_once [] unseen r sets (x ∷ []) back e m = cc
runouts_once [] unseen r sets (x ∷ y ∷ front) back e m = cc
runouts_once (n ∷ counts) unseen r sets front back e m =
    let g : List ℕ → List (List (List ℕ)) = λ first. map (λ rest. first ∷ rest) (runouts (left_by unseen first) counts) in
    let b = split_blocks g (choose n unseen) front sets back e in
    let s = split_map (λ rest. b.1 ∷ rest) (runouts (left_by unseen b.1) counts) b.3 sets b.4 b.6 in
    elim (split b.4 (flat_map g b.2) m.0 sets m.1 (sym b.7 ∙ m.2)) [
      | inl t ↦
          let again = split_map (λ rest. b.1 ∷ rest) s.2 m.0 sets t.0 (sym s.5 ∙ t.1) in
          let same : again.1 ≡ s.1 = cc (again.4, s.4) in
          runouts_once counts (left_by unseen b.1) (rising_left 0 unseen b.1 r) s.1 s.0 s.2 s.3 (again.0, again.2, again.3 ∙ ap (λ v. again.0 ++ v ∷ again.2) same)
      | inr t ↦
          let b' = split_blocks g b.2 t.0 sets m.1 t.1 in
          let s' = split_map (λ rest. b'.1 ∷ rest) (runouts (left_by unseen b'.1) counts) b'.3 sets b'.4 b'.6 in
          let same : b'.1 ≡ b.1 = cc (s'.4, s.4) in
          choose_once 0 n unseen r b.1 b.0 b.2 b.5 (b'.0, b'.2, b'.5 ∙ ap (λ v. b'.0 ++ v ∷ b'.2) same)
    ]

all_has : (p : ℕ → Bool) (xs : List ℕ) (k : ℕ) → list_all p xs ≡ true → has_card xs k ≡ true → p k ≡ true
all_has p [] k a h = absurd (true≢false (sym h))
all_has p (x ∷ xs) k a h = elim (cases_eq x k) [
  | inl e ↦ ap p (sym e) ∙ first (p x) (list_all p xs) a
  | inr ne ↦
      let f : (x == k) ≡ false = grind arith in
      let later : has_card xs k ≡ true = rw f at h in
      all_has p xs k (second (p x) (list_all p xs) a) later
]
  where
    first : (a b : Bool) → (a && b) ≡ true → a ≡ true
    first true b h = refl
    first false b h = h

    second : (a b : Bool) → (a && b) ≡ true → b ≡ true
    second true b h = h
    second false b h = absurd (true≢false (sym h))

all_from : (p : ℕ → Bool) (xs : List ℕ) → ((k : ℕ) → has_card xs k ≡ true → p k ≡ true) → list_all p xs ≡ true
all_from p [] h = refl
all_from p (x ∷ xs) h =
    let is : (x == x) ≡ true = grind arith in
    let t : has_card (x ∷ xs) x ≡ true = rw is refl in
    let here : p x ≡ true = h x t in
    rw here (all_from p xs (λ k i. h k (or_true (x == k) (has_card xs k) i)))

not_true : (b : Bool) → not b ≡ true → b ≡ false
not_true true h = absurd (true≢false (sym h))
not_true false h = refl

not_false : (b : Bool) → b ≡ false → not b ≡ true
not_false true h = absurd (true≢false h)
not_false false h = refl

-- a card that is left is a card that wasn't taken
left_has : (xs taken : List ℕ) (k : ℕ) → has_card (left_by xs taken) k ≡ true → (has_card xs k ≡ true) × (has_card taken k ≡ false)
left_has [] taken k h = absurd (true≢false (sym h))
left_has (x ∷ xs) taken k h = elim (has_card taken x) as (λ b. has_card taken x ≡ b → has_card (cond (not b) (x ∷ left_by xs taken) (left_by xs taken)) k ≡ true → (has_card (x ∷ xs) k ≡ true) × (has_card taken k ≡ false)) [
  | true ↦ λ t i. let l = left_has xs taken k i in (or_true (x == k) (has_card xs k) l.0, l.1)
  | false ↦ λ t i. elim (cases_eq x k) [
    | inl e ↦ let is : (x == k) ≡ true = grind arith in (rw is refl, ap (λ n. has_card taken n) (sym e) ∙ t)
    | inr ne ↦
        let f : (x == k) ≡ false = grind arith in
        let later : has_card (left_by xs taken) k ≡ true = rw f at i in
        let l = left_has xs taken k later in
        (or_true (x == k) (has_card xs k) l.0, l.1)
  ]
] refl h

has_left_by : (xs taken : List ℕ) (k : ℕ) → has_card xs k ≡ true → has_card taken k ≡ false → has_card (left_by xs taken) k ≡ true
has_left_by [] taken k h out = h
has_left_by (x ∷ xs) taken k h out = elim (cases_eq x k) [
  | inl e ↦
      let free : has_card taken x ≡ false = ap (λ n. has_card taken n) e ∙ out in
      let is : (x == k) ≡ true = grind arith in
      rw (free, is) refl
  | inr ne ↦
      let f : (x == k) ≡ false = grind arith in
      let later : has_card xs k ≡ true = rw f at h in
      let i : has_card (left_by xs taken) k ≡ true = has_left_by xs taken k later out in
      elim (has_card taken x) as (λ b. has_card (cond (not b) (x ∷ left_by xs taken) (left_by xs taken)) k ≡ true) [ true ↦ i | false ↦ or_true (x == k) (has_card (left_by xs taken) k) i ]
]

-- ---- runouts in plain words
fills_none : (unseen : List ℕ) (sets : List (List ℕ)) → sets ≡ [] → Fills unseen [] sets
fills_none unseen [] e = record { sizes = refl; rising = All-nil IsRising; apart = refl; may_come = All-nil (λ set. Within set unseen) }
fills_none unseen (x ∷ sets) e = cc

and_true : (a b : Bool) → a ≡ true → b ≡ true → (a && b) ≡ true
and_true true b h i = i
and_true false b h i = absurd (true≢false (sym h))

-- sets of cards that a set leaves share no card with it
apart_all : (f : List ℕ) (unseen : List ℕ) (sets : List (List ℕ)) → All (λ set. Within set (left_by unseen f)) sets → list_all (apart f) sets ≡ true
apart_all f unseen [] h = refl
apart_all f unseen (s ∷ sets) h =
    let w : Within s (left_by unseen f) = All-head (λ set. Within set (left_by unseen f)) s sets h in
    let here : apart f s ≡ true = all_from (λ c. not (has_card s c)) f (λ k i. not_false (has_card s k) (no s k i w)) in
    and_true (apart f s) (list_all (apart f) sets) here (apart_all f unseen sets (All-tail (λ set. Within set (left_by unseen f)) s sets h))
  where
    no : (s : List ℕ) (k : ℕ) → has_card f k ≡ true → Within s (left_by unseen f) → has_card s k ≡ false
    no s k i w = elim (has_card s k) as (λ b. has_card s k ≡ b → b ≡ false) [
      | true ↦ λ t. absurd (true≢false (sym i ∙ (left_has unseen f k (w k t)).1))
      | false ↦ λ t. refl
    ] refl

within_all : (f unseen : List ℕ) (sets : List (List ℕ)) → All (λ set. Within set (left_by unseen f)) sets → All (λ set. Within set unseen) sets
within_all f unseen [] h = All-nil (λ set. Within set unseen)
within_all f unseen (s ∷ sets) h =
    All-cons (λ set. Within set unseen) s sets (λ k i. (left_has unseen f k (All-head (λ set. Within set (left_by unseen f)) s sets h k i)).0) (within_all f unseen sets (All-tail (λ set. Within set (left_by unseen f)) s sets h))

-- a runout fills the slots
pub runout_fills : (counts unseen : List ℕ) (sets : List (List ℕ)) → IsRising unseen → HasMember (runouts unseen counts) sets → Fills unseen counts sets
runout_fills [] unseen sets r m = fills_none unseen sets (one m.0 m.1 m.2)
  where
    one : (front back : List (List (List ℕ))) → [] ∷ [] ≡ front ++ sets ∷ back → sets ≡ []
    one [] back e = cc
    one (x ∷ []) back e = cc
    one (x ∷ y ∷ front) back e = cc
runout_fills (n ∷ counts) unseen [] r m = absurd (0≢suc (length-runout (n ∷ counts) unseen [] m))
  where
    0≢suc : 0 ≡ suc (length counts) → ⊥
    0≢suc e = absurd (omega arith)
runout_fills (n ∷ counts) unseen (f ∷ sets) r m =
    let p = place unseen n counts f sets m.0 m.1 m.2 in
    let rest = runout_fills counts (left_by unseen f) sets (rising_left 0 unseen f r) (p.2, p.3, p.5) in
    record {
      sizes = ap (λ k. k ∷ map length sets) (choose_length n unseen f p.0 p.1 p.4) ∙ ap (λ l. n ∷ l) rest.sizes;
      rising = All-cons IsRising f sets (choose_rising 0 n unseen f p.0 p.1 r p.4) rest.rising;
      apart = and_true (list_all (apart f) sets) (all_apart sets) (apart_all f unseen sets rest.may_come) rest.apart;
      may_come = All-cons (λ set. Within set unseen) f sets (choose_within n unseen f p.0 p.1 p.4) (within_all f unseen sets rest.may_come);
    }

both_first : (a b : Bool) → (a && b) ≡ true → a ≡ true
both_first true b h = refl
both_first false b h = h

both_second : (a b : Bool) → (a && b) ≡ true → b ≡ true
both_second true b h = h
both_second false b h = absurd (true≢false (sym h))

still_within : (f unseen : List ℕ) (sets : List (List ℕ)) → list_all (apart f) sets ≡ true → All (λ set. Within set unseen) sets → All (λ set. Within set (left_by unseen f)) sets
still_within f unseen [] a h = All-nil (λ set. Within set (left_by unseen f))
still_within f unseen (s ∷ sets) a h =
    All-cons (λ set. Within set (left_by unseen f)) s sets (λ k i. has_left_by unseen f k (All-head (λ set. Within set unseen) s sets h k i) (free k i)) (still_within f unseen sets (both_second (apart f s) (list_all (apart f) sets) a) (All-tail (λ set. Within set unseen) s sets h))
  where
    free : (k : ℕ) → has_card s k ≡ true → has_card f k ≡ false
    free k i = elim (has_card f k) as (λ b. has_card f k ≡ b → b ≡ false) [
      | true ↦ λ t. absurd (true≢false (sym i ∙ not_true (has_card s k) (all_has (λ c. not (has_card s c)) f k (both_first (apart f s) (list_all (apart f) sets) a) t)))
      | false ↦ λ t. refl
    ] refl

-- what fills the slots is a runout
pub filled_runout : (counts unseen : List ℕ) (sets : List (List ℕ)) → IsRising unseen → Fills unseen counts sets → HasMember (runouts unseen counts) sets
filled_runout [] unseen [] r h = ([], [], refl)
filled_runout [] unseen (f ∷ sets) r h = let e : map length (f ∷ sets) ≡ [] = h.sizes in cc
filled_runout (n ∷ counts) unseen [] r h = let e : [] ≡ n ∷ counts = h.sizes in cc
filled_runout (n ∷ counts) unseen (f ∷ sets) r h =
    let e : length f ∷ map length sets ≡ n ∷ counts = h.sizes in
    let many : length f ≡ n = cc in
    let w : Within f unseen = All-head (λ set. Within set unseen) f sets h.may_come in
    let rest = filled_runout counts (left_by unseen f) sets (rising_left 0 unseen f r) record {
      sizes = cc;
      rising = All-tail IsRising f sets h.rising;
      apart = both_second (list_all (apart f) sets) (all_apart sets) h.apart;
      may_come = still_within f unseen sets (both_first (list_all (apart f) sets) (all_apart sets) h.apart) (All-tail (λ set. Within set unseen) f sets h.may_come);
    } in
    let m = choose_has 0 unseen f r (All-head IsRising f sets h.rising) w in
    let g : List ℕ → List (List (List ℕ)) = λ first. map (λ rest. first ∷ rest) (runouts (left_by unseen first) counts) in
    let P : ℕ → Type 0 = λ k. HasMember (runouts unseen (k ∷ counts)) (f ∷ sets) in
    let Q : List (List ℕ) → Type 0 = λ l. HasMember (flat_map g l) (f ∷ sets) in
    subst P many (subst Q (sym m.2) (has_blocks g m.0 f m.1 (f ∷ sets) (has_map (λ rest. f ∷ rest) (runouts (left_by unseen f) counts) sets rest)))
