-- The members of listings by their places.
use Rattle.std.proofs.Common.{◌≡◌, ℕ, zero, suc, ◌+◌, ◌-◌, ◌*◌, ◌/◌, ◌%◌, ◌<◌, ◌≤◌, List, [], ◌∷◌, ◌++◌, length, map, take, drop, refl, sym, ap, ◌∙◌, arith, append_assoc, append-nil, subst, Some, None, inl, inr, sum, get_or, set}
use Rattle.std.specs.Prelude.{slice_get}
use Rattle.std.specs.List.{flat_map}
use Rattle.std.proofs.lemmas.List.{length-map, take_all}
use Rattle.std.proofs.Math.Nat.{div-add-mod, mul_comm, mul-le-mul_right, div-lt_iff_lt-mul}
use Rattle.std.proofs.lemmas.List.Sums.{sum_by-cons}
use Rattle.runout_ranges.specs.Slots.{counts_of}
use Rattle.runout_ranges.specs.declared.shapes.Slot.{Slot}
use Rattle.std.proofs.lemmas.Nat.{mod_below}
use Rattle.std.proofs.lemmas.Bool.{cases_lt}
use Rattle.card_sets.specs.Cards.{IsCardSet, IsRising, minus}
use Rattle.card_sets.specs.Choose.{choose}
use Rattle.runout_ranges.specs.Runouts.{runouts, left_by, HasMember}
use Rattle.runout_ranges.specs.Ways.{binomial, ways}
use Rattle.runout_ranges.proofs.ListingLength.{length_choose, length_runouts, binomial_none, binomial_some, ways_some, rising_left}
use Rattle.runout_ranges.proofs.CardLists.{minus_left}
use borrow.Rule.Slice.PartMut.{put_mid}
use Rattle.runout_ranges.proofs.FilledSlots.{left_length, put_rest}

-- a list with no first has nothing
pub nothing : (cards : List ℕ) → slice_get cards 0 ≡ None → length cards ≡ 0
nothing [] h = refl
nothing (c ∷ cards) h = cc

-- the cards of a place are enough
pub enough_for : (n k place : ℕ) → place < binomial n k → k ≤ n
enough_for n k place h = elim (cases_lt n k) [
  | inl l ↦ absurd (omega (arith, binomial_none n k l))
  | inr ge ↦ ge
]

-- among the choices with the first card
low_choice : (taken : List ℕ) (card : ℕ) (A B : List (List ℕ)) (i : ℕ) → i < length A
    → slice_get (map (λ more. (taken ++ card ∷ []) ++ more) A) i ≡ slice_get (map (λ more. taken ++ more) (map (λ rest. card ∷ rest) A ++ B)) i
low_choice taken card [] B i h = absurd (omega arith)
low_choice taken card (a ∷ A) B zero h = ap Some (append_assoc taken (card ∷ []) a)
low_choice taken card (a ∷ A) B (suc i) h = low_choice taken card A B i (omega arith)

-- and among those without it
high_choice : (taken : List ℕ) (card : ℕ) (A B : List (List ℕ)) (i : ℕ) → slice_get (map (λ more. taken ++ more) B) i ≡ slice_get (map (λ more. taken ++ more) (map (λ rest. card ∷ rest) A ++ B)) (length A + i)
high_choice taken card [] B i = let z : 0 + i ≡ i = omega arith in rw z refl
high_choice taken card (a ∷ A) B i = let z : suc (length A) + i ≡ suc (length A + i) = omega arith in rw z (high_choice taken card A B i)

pub choice_none : (taken rest : List ℕ) (missing place : ℕ) → missing ≡ 0 → place < binomial (length rest) missing → slice_get (map (λ more. taken ++ more) (choose missing rest)) place ≡ Some taken
choice_none taken rest missing place z h =
    let P : ℕ → Type 0 = λ m. place < binomial (length rest) m → slice_get (map (λ more. taken ++ more) (choose m rest)) place ≡ Some taken in
    subst P (sym z) (λ l. one place l) h
  where
    one : (place : ℕ) → place < 1 → slice_get ((taken ++ []) ∷ []) place ≡ Some taken
    one zero l = ap Some (append-nil taken)
    one (suc p) l = absurd (omega arith)

pub choice_with : (taken rest others : List ℕ) (card missing place with : ℕ) (result : List ℕ) → (missing ≡ 0 → ⊥) → rest ≡ card ∷ others → with ≡ binomial (length others) (missing - 1) → place < with
    → slice_get (map (λ more. (taken ++ card ∷ []) ++ more) (choose (missing - 1) others)) place ≡ Some result → slice_get (map (λ more. taken ++ more) (choose missing rest)) place ≡ Some result
choice_with taken rest others card zero place with result some first w h e = absurd (some refl)
choice_with taken rest others card (suc k) place with result some first w h e =
    let less : suc k - 1 ≡ k = omega arith in
    let e' : slice_get (map (λ more. (taken ++ card ∷ []) ++ more) (choose k others)) place ≡ Some result = (rw less at e) in
    let w' : with ≡ binomial (length others) k = w ∙ ap (binomial (length others)) less in
    ap (λ l. slice_get (map (λ more. taken ++ more) (choose (suc k) l)) place) first
    ∙ sym (low_choice taken card (choose k others) (choose (suc k) others) place (omega (arith, length_choose k others))) ∙ e'

pub choice_without : (taken rest others : List ℕ) (card missing place with : ℕ) (result : List ℕ) → (missing ≡ 0 → ⊥) → rest ≡ card ∷ others → with ≡ binomial (length others) (missing - 1) → with ≤ place
    → slice_get (map (λ more. taken ++ more) (choose missing others)) (place - with) ≡ Some result → slice_get (map (λ more. taken ++ more) (choose missing rest)) place ≡ Some result
choice_without taken rest others card zero place with result some first w h e = absurd (some refl)
choice_without taken rest others card (suc k) place with result some first w h e =
    let less : suc k - 1 ≡ k = omega arith in
    let w' : with ≡ binomial (length others) k = w ∙ ap (binomial (length others)) less in
    let at : place ≡ length (choose k others) + (place - with) = omega (arith, length_choose k others) in
    ap (λ l. slice_get (map (λ more. taken ++ more) (choose (suc k) l)) place) first
    ∙ ap (λ i. slice_get (map (λ more. taken ++ more) (map (λ rest. card ∷ rest) (choose k others) ++ choose (suc k) others)) i) at
    ∙ sym (high_choice taken card (choose k others) (choose (suc k) others) (place - with)) ∙ e

-- what is left of a place after the choices with the first card
pub place_without : (n missing place with : ℕ) → (missing ≡ 0 → ⊥) → with ≡ binomial n (missing - 1) → with ≤ place → place < binomial (suc n) missing → place - with < binomial n missing
place_without n zero place with some w h l = absurd (some refl)
place_without n (suc k) place with some w h l =
    let less : suc k - 1 ≡ k = omega arith in
    let w' : with ≡ binomial n k = w ∙ ap (binomial n) less in
    omega arith

-- the member of a listing of blocks of one length, by the block's place and the place in the block
at_block : {X Y : Type 0} (g : X → List Y) (xs : List X) (w q r : ℕ) (x : X) → ((front back : List X) (y : X) → xs ≡ front ++ y ∷ back → length (g y) ≡ w) → slice_get xs q ≡ Some x → r < w
    → slice_get (flat_map g xs) (q * w + r) ≡ slice_get (g x) r
at_block g [] w q r x all e h = cc
at_block g (y ∷ xs) w zero r x all e h =
    let same : y ≡ x = cc in
    let z : 0 * w + r ≡ r = omega arith in
    let l : length (g y) ≡ w = all [] xs y refl in
    rw z (early (g y) (flat_map g xs) r (omega arith) ∙ ap (λ v. slice_get (g v) r) same)
  where
    early : {Y : Type 0} (front bs : List Y) (i : ℕ) → i < length front → slice_get (front ++ bs) i ≡ slice_get front i
    early [] bs i h = absurd (omega arith)
    early (a ∷ more) bs zero h = refl
    early (a ∷ more) bs (suc i) h = early more bs i (omega arith)
at_block g (y ∷ xs) w (suc q) r x all e h =
    let l : length (g y) ≡ w = all [] xs y refl in
    let at : suc q * w + r ≡ length (g y) + (q * w + r) = omega arith in
    let rest : slice_get (flat_map g xs) (q * w + r) ≡ slice_get (g x) r = at_block g xs w q r x (λ front back z s. all (y ∷ front) back z (ap (λ v. y ∷ v) s)) e h in
    rw at (late (g y) (flat_map g xs) (q * w + r) ∙ rest)
  where
    late : {Y : Type 0} (front bs : List Y) (i : ℕ) → slice_get (front ++ bs) (length front + i) ≡ slice_get bs i
    late [] bs i = let z : 0 + i ≡ i = omega arith in rw z refl
    late (a ∷ more) bs i = let z : suc (length more) + i ≡ suc (length more + i) = omega arith in rw z (late more bs i)

at_map : {X Y : Type 0} (f : X → Y) (xs : List X) (i : ℕ) (x : X) → slice_get xs i ≡ Some x → slice_get (map f xs) i ≡ Some (f x)
at_map f [] i x e = cc
at_map f (y ∷ xs) zero x e = let same : y ≡ x = cc in ap (λ v. Some (f v)) same
at_map f (y ∷ xs) (suc i) x e = at_map f xs i x e

map_none : (ls : List (List ℕ)) → map (λ more. [] ++ more) ls ≡ ls
map_none [] = refl
map_none (l ∷ ls) = ap (λ v. l ∷ v) (map_none ls)

-- a runout by its first choice and the runout of what is left
pub runout_with : (n : ℕ) (counts unseen left first : List ℕ) (later : List (List ℕ)) (place ways_later : ℕ) → IsRising unseen → IsCardSet unseen → 0 < ways_later → ways_later ≡ ways (length unseen - n) counts
    → slice_get (choose n unseen) (place / ways_later) ≡ Some first → left ≡ minus unseen first → slice_get (runouts left counts) (place % ways_later) ≡ Some later
    → slice_get (runouts unseen (n ∷ counts)) place ≡ Some (first ∷ later)
runout_with n counts unseen left first later place w rising set some size one whole two =
    let firsts : slice_get (choose n unseen) (place / w) ≡ Some first = one in
    let at : place ≡ place / w * w + place % w = omega (arith, div-add-mod place w, mul_comm w (place / w)) in
    let each : (front back : List (List ℕ)) (y : List ℕ) → choose n unseen ≡ front ++ y ∷ back → length (map (λ rest. y ∷ rest) (runouts (left_by unseen y) counts)) ≡ w = λ front back y e.
    (let l : length (left_by unseen y) + n ≡ length unseen = left_length 0 n unseen y front back rising e in
    let less : length (left_by unseen y) ≡ length unseen - n = omega arith in
    length-map (runouts (left_by unseen y) counts) (λ rest. y ∷ rest) ∙ length_runouts counts (left_by unseen y) (rising_left 0 unseen y rising) ∙ ap (λ k. ways k counts) less ∙ sym size) in
    let small : place % w < w = mod_below place w some in
    ap (λ i. slice_get (runouts unseen (n ∷ counts)) i) at
    ∙ at_block (λ first. map (λ rest. first ∷ rest) (runouts (left_by unseen first) counts)) (choose n unseen) w (place / w) (place % w) first each firsts small
    ∙ at_map (λ rest. first ∷ rest) (runouts (left_by unseen first) counts) (place % w) later (ap (λ l. slice_get (runouts l counts) (place % w)) (sym (whole ∙ minus_left unseen first set)) ∙ two)

-- the ways to fill the slots by those of the first and of the others
pub record AtFirst (others slots : List Slot) (left n : ℕ) : Type 0 where
  pub within : n ≤ left
  pub enough : sum (counts_of others) ≤ left - n
  pub product : binomial left n * ways (left - n) (counts_of others) ≡ ways left (counts_of slots)
  pub some : 0 < ways (left - n) (counts_of others)
  pub fewer : ways (left - n) (counts_of others) ≤ ways left (counts_of slots)

others_of : (xs : List Slot) → take (suc (length xs) - 1) xs ≡ xs
others_of xs =
    let n : suc (length xs) - 1 ≡ length xs = omega arith in
    ap (λ k. take k xs) n ∙ take_all (length xs) xs (omega arith)

pub at_first : (slots : List Slot) (d : Slot) (left n : ℕ) → 0 < length slots → n ≡ (get_or slots 0 d).count → sum (counts_of slots) ≤ left → AtFirst (take (length slots - 1) (drop 1 slots)) slots left n
at_first [] d left n h e enough = absurd (omega arith)
at_first (s ∷ slots) d left n h e enough =
    let all : sum (counts_of (s ∷ slots)) ≡ s.count + sum (counts_of slots) = sum_by-cons (λ k. k) s.count (counts_of slots) in
    let is : n ≡ s.count = e in
    let some : 0 < ways (left - n) (counts_of slots) = ways_some (counts_of slots) (left - n) (omega arith) in
    let first : 0 < binomial left n = binomial_some left n (omega arith) in
    let most : 1 * ways (left - n) (counts_of slots) ≤ binomial left n * ways (left - n) (counts_of slots) = mul-le-mul_right (ways (left - n) (counts_of slots)) first in
    let product : binomial left n * ways (left - n) (counts_of slots) ≡ ways left (counts_of (s ∷ slots)) = ap (λ m. binomial left m * ways (left - m) (counts_of slots)) is in
    let P : List Slot → Type 0 = λ l. AtFirst l (s ∷ slots) left n in
    subst P (sym (others_of slots)) (record {
      within = omega arith;
      enough = omega arith;
      product = product;
      some = some;
      fewer = omega arith;
    })

-- a member by its place is a member
pub member_at : {X : Type 0} (xs : List X) (i : ℕ) (x : X) → slice_get xs i ≡ Some x → HasMember xs x
member_at [] i x e = cc
member_at (y ∷ xs) zero x e = let same : y ≡ x = cc in ([], xs, ap (λ v. v ∷ xs) same)
member_at (y ∷ xs) (suc i) x e = let m = member_at xs i x e in (y ∷ m.0, m.1, ap (λ v. y ∷ v) m.2)

pub first_member_at : (n : ℕ) (unseen empty first : List ℕ) (i : ℕ) → empty ≡ [] → slice_get (map (λ more. empty ++ more) (choose n unseen)) i ≡ Some first → slice_get (choose n unseen) i ≡ Some first
first_member_at n unseen empty first i e at = ap (λ l. slice_get l i) (sym (map_none (choose n unseen))) ∙ ap (λ t. slice_get (map (λ more. t ++ more) (choose n unseen)) i) (sym e) ∙ at

pub place_in_first : (place w n : ℕ) → 0 < w → place < n * w → place / w < n
place_in_first place w n some h = (div-lt_iff_lt-mul some).1 h

-- the runout of a place, as the code has it
pub filled_at : (unseen left first : List ℕ) (slots : List Slot) (d : Slot) (n : ℕ) (sets later : List (List ℕ)) (place w : ℕ) → 0 < length slots → 0 < length sets → IsRising unseen → IsCardSet unseen → n ≡ (get_or slots 0 d).count
    → 0 < w → w ≡ ways (length unseen - n) (counts_of (take (length slots - 1) (drop 1 slots))) → slice_get (choose n unseen) (place / w) ≡ Some first → left ≡ minus unseen first
    → slice_get (runouts left (counts_of (take (length slots - 1) (drop 1 slots)))) (place % w) ≡ Some later
    → slice_get (runouts unseen (counts_of slots)) place ≡ Some (put_mid 1 (length (set sets 0 first) - 1) (set sets 0 first) later)
filled_at unseen left first [] d n sets later place w h i rising cards count some size at whole rest = absurd (omega arith)
filled_at unseen left first (s ∷ slots) d n [] later place w h i rising cards count some size at whole rest = absurd (omega arith)
filled_at unseen left first (s ∷ slots) d n (x ∷ sets) later place w h i rising cards count some size at whole rest =
    let is : n ≡ s.count = count in
    let P : List Slot → Type 0 = λ l. w ≡ ways (length unseen - n) (counts_of l) in
    let Q : List Slot → Type 0 = λ l. slice_get (runouts left (counts_of l)) (place % w) ≡ Some later in
    let whole_runout : slice_get (runouts unseen (n ∷ counts_of slots)) place ≡ Some (first ∷ later) =
    runout_with n (counts_of slots) unseen left first later place w rising cards some (subst P (others_of slots) size) at whole (subst Q (others_of slots) rest) in
    ap (λ m. slice_get (runouts unseen (m ∷ counts_of slots)) place) (sym is) ∙ whole_runout ∙ ap Some (sym (put_rest first sets later))
