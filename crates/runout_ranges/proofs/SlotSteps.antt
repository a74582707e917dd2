-- One slot of a shape, then the slots after it.
use Rattle.std.proofs.Common.{◌≡◌, ℕ, suc, ◌+◌, ◌-◌, ◌<◌, ◌≤◌, List, [], ◌∷◌, ◌++◌, refl, sym, ap, ◌∙◌, subst, length, take, drop, get_or, set, sum, arith, Bool, true, ◌==◌}
use Rattle.std.specs.Prelude.{MatchBool}
use borrow.Rule.Slice.PartMut.{put_mid}
use Rattle.std.proofs.lemmas.List.{take_all, take_at, length-take-le, length-map}
use Rattle.std.proofs.lemmas.List.Sums.{sum_by-cons}
use Rattle.card_sets.specs.Cards.{minus, IsCardSet}
use Rattle.card_sets.specs.Choose.{choose}
use Rattle.card_sets.specs.Rising.{IsCardSet-rising}
use Rattle.runout_ranges.specs.Runouts.{runouts, left_by, HasMember, Begins, Follows, Ends}
use Rattle.runout_ranges.specs.Walks.{HasMember-next, length-runout}
use Rattle.runout_ranges.specs.Slots.{counts_of}
use Rattle.runout_ranges.specs.declared.shapes.Slot.{Slot}
use Rattle.runout_ranges.proofs.ListPlaces.{place, next_in_rest, next_choice_first, ends_all}
use Rattle.runout_ranges.proofs.NextChoice.{first_choice, choose_length}
use Rattle.runout_ranges.proofs.CardLists.{minus_left}
use Rattle.runout_ranges.proofs.FilledSlots.{put_rest, begins_runouts, left_length, no_slot_ends}

rest_of : {X : Type 0} (xs : List X) → take (suc (length xs) - 1) xs ≡ xs
rest_of xs =
    let n : suc (length xs) - 1 ≡ length xs = omega arith in
    ap (λ k. take k xs) n ∙ take_all (length xs) xs (omega arith)

-- the cards that a choice takes and those that it leaves are all
pub choice_left : (n : ℕ) (unseen at : List ℕ) → IsCardSet unseen → HasMember (choose n unseen) at → length (minus unseen at) + n ≡ length unseen
choice_left n unseen at rises m =
    let l : length (minus unseen at) ≡ length (left_by unseen at) = ap length (minus_left unseen at rises) in
    let all : length (left_by unseen at) + n ≡ length unseen = left_length 0 n unseen at m.0 m.1 (IsCardSet-rising unseen rises) m.2 in
    omega arith

pub first_left : (n : ℕ) (unseen : List ℕ) → IsCardSet unseen → n ≤ length unseen → length (minus unseen (take n unseen)) + n ≡ length unseen
first_left n unseen rises enough =
    let f = first_choice n unseen enough in
    choice_left n unseen (take n unseen) rises ([], f.0, f.1)

pub sum_slots : (slots : List Slot) (d : Slot) → 0 < length slots → sum (counts_of slots) ≡ (get_or slots 0 d).count + sum (counts_of (take (length slots - 1) (drop 1 slots)))
sum_slots [] d h = absurd (omega arith)
sum_slots (s ∷ slots) d h = sum_by-cons (λ n. n) s.count (counts_of slots) ∙ ap (λ l. s.count + sum (counts_of l)) (sym (rest_of slots))

-- the first runout, by its first choice and the first runout of what is left
pub filled : (unseen left first : List ℕ) (slots : List Slot) (d : Slot) (n : ℕ) (sets later : List (List ℕ)) → 0 < length slots → 0 < length sets → IsCardSet unseen → n ≡ (get_or slots 0 d).count → n ≤ length unseen → first ≡ take n unseen → left ≡ minus unseen first
    → Begins (runouts left (counts_of (take (length slots - 1) (drop 1 slots)))) later → Begins (runouts unseen (counts_of slots)) (put_mid 1 (length (set sets 0 first) - 1) (set sets 0 first) later)
filled unseen left first [] d n sets later h i rises count enough f l b = absurd (omega arith)
filled unseen left first (s ∷ slots) d n [] later h i rises count enough f l b = absurd (omega arith)
filled unseen left first (s ∷ slots) d n (x ∷ sets) later h i rises count enough f l b =
    let whole : left ≡ left_by unseen (take n unseen) = l ∙ minus_left unseen first rises ∙ ap (λ v. left_by unseen v) f in
    let P : List ℕ → Type 0 = λ v. Begins (runouts v (counts_of slots)) later in
    let Q : List Slot → Type 0 = λ v. Begins (runouts left (counts_of v)) later in
    let g : Begins (runouts unseen (n ∷ counts_of slots)) (take n unseen ∷ later) = begins_runouts unseen n (counts_of slots) later enough (subst P whole (subst Q (rest_of slots) b)) in
    let R : ℕ → Type 0 = λ v. Begins (runouts unseen (v ∷ counts_of slots)) (take n unseen ∷ later) in
    let S : List (List ℕ) → Type 0 = λ v. Begins (runouts unseen (counts_of (s ∷ slots))) v in
    subst S (ap (λ v. v ∷ later) (sym f) ∙ sym (put_rest first sets later)) (subst R count g)

-- a choice is a choice of as many as it has
pub as_many : (n : ℕ) (unseen chosen : List ℕ) → HasMember (choose n unseen) chosen → n ≡ length chosen
as_many n unseen chosen m = sym (choose_length n unseen chosen m.0 m.1 m.2)

-- what is known of a runout at its first slot
pub record AtSlot (unseen left chosen : List ℕ) (slots : List Slot) (d : Slot) (sets : List (List ℕ)) : Type 0 where
  pub some_slot : 0 < length slots
  pub some_set : 0 < length sets
  pub rises : IsCardSet unseen
  pub first : chosen ≡ get_or sets 0 chosen
  pub others : left ≡ minus unseen chosen
  pub member : HasMember (runouts unseen (counts_of slots)) sets
  pub enough : sum (counts_of slots) ≤ length unseen

-- a runout is a choice and a runout of what it leaves
pub first_member : (unseen left chosen : List ℕ) (slots : List Slot) (d : Slot) (sets : List (List ℕ)) → AtSlot unseen left chosen slots d sets
    → HasMember (choose (get_or slots 0 d).count unseen) chosen × HasMember (runouts left (counts_of (take (length slots - 1) (drop 1 slots)))) (take (length sets - 1) (drop 1 sets))
first_member unseen left chosen [] d sets k = absurd (let z = k.some_slot in omega arith)
first_member unseen left chosen (s ∷ slots) d [] k = absurd (let z = k.some_set in omega arith)
first_member unseen left chosen (s ∷ slots) d (x ∷ sets) k =
    let p = place unseen s.count (counts_of slots) x sets k.member.0 k.member.1 k.member.2 in
    let whole : left_by unseen x ≡ left = ap (λ v. left_by unseen v) (sym k.first) ∙ sym (minus_left unseen chosen k.rises) ∙ sym k.others in
    let P : List ℕ → Type 0 = λ v. HasMember (choose s.count unseen) v in
    let Q : List ℕ → Type 0 = λ v. HasMember (runouts v (counts_of slots)) sets in
    let R : List Slot → Type 0 = λ v. HasMember (runouts left (counts_of v)) sets in
    let S : List (List ℕ) → Type 0 = λ v. HasMember (runouts left (counts_of (take (suc (length slots) - 1) slots))) v in
    (subst P (sym k.first) (p.0, p.1, p.4), subst S (sym (rest_of sets)) (subst R (sym (rest_of slots)) (subst Q whole (p.2, p.3, p.5))))

-- what follows among the runouts of what is left
pub later_follows : (unseen left chosen : List ℕ) (slots : List Slot) (d : Slot) (sets later : List (List ℕ)) → AtSlot unseen left chosen slots d sets
    → Follows (runouts left (counts_of (take (length slots - 1) (drop 1 slots)))) (take (length sets - 1) (drop 1 sets)) later
    → Follows (runouts unseen (counts_of slots)) sets (put_mid 1 (length sets - 1) sets later)
later_follows unseen left chosen [] d sets later k f = absurd (let z = k.some_slot in omega arith)
later_follows unseen left chosen (s ∷ slots) d [] later k f = absurd (let z = k.some_set in omega arith)
later_follows unseen left chosen (s ∷ slots) d (x ∷ sets) later k f =
    let whole : left ≡ left_by unseen x = k.others ∙ minus_left unseen chosen k.rises ∙ ap (λ v. left_by unseen v) k.first in
    let P : List (List ℕ) → Type 0 = λ v. Follows (runouts left (counts_of (take (suc (length slots) - 1) slots))) v later in
    let Q : List Slot → Type 0 = λ v. Follows (runouts left (counts_of v)) sets later in
    let R : List ℕ → Type 0 = λ v. Follows (runouts v (counts_of slots)) sets later in
    let S : List (List ℕ) → Type 0 = λ v. Follows (runouts unseen (counts_of (s ∷ slots))) (x ∷ sets) v in
    subst S (sym (put_rest x sets later)) (next_in_rest unseen s.count (counts_of slots) x sets later (subst R whole (subst Q (rest_of slots) (subst P (rest_of sets) f))))

-- the last of all
pub later_ends : (unseen left chosen : List ℕ) (slots : List Slot) (d : Slot) (sets later : List (List ℕ)) → AtSlot unseen left chosen slots d sets
    → Ends (runouts left (counts_of (take (length slots - 1) (drop 1 slots)))) (take (length sets - 1) (drop 1 sets)) → later ≡ take (length sets - 1) (drop 1 sets)
    → Ends (choose (get_or slots 0 d).count unseen) chosen
    → Ends (runouts unseen (counts_of slots)) sets × (put_mid 1 (length sets - 1) sets later ≡ sets)
later_ends unseen left chosen [] d sets later k f same e = absurd (let z = k.some_slot in omega arith)
later_ends unseen left chosen (s ∷ slots) d [] later k f same e = absurd (let z = k.some_set in omega arith)
later_ends unseen left chosen (s ∷ slots) d (x ∷ sets) later k f same e =
    let whole : left ≡ left_by unseen x = k.others ∙ minus_left unseen chosen k.rises ∙ ap (λ v. left_by unseen v) k.first in
    let P : List (List ℕ) → Type 0 = λ v. Ends (runouts left (counts_of (take (suc (length slots) - 1) slots))) v in
    let Q : List Slot → Type 0 = λ v. Ends (runouts left (counts_of v)) sets in
    let R : List ℕ → Type 0 = λ v. Ends (runouts v (counts_of slots)) sets in
    let S : List ℕ → Type 0 = λ v. Ends (choose s.count unseen) v in (
      ends_all unseen s.count (counts_of slots) x sets (subst R whole (subst Q (rest_of slots) (subst P (rest_of sets) f))) (subst S k.first e),
      put_rest x sets later ∙ ap (λ v. x ∷ v) (same ∙ rest_of sets),
    )

-- the next choice of the first slot, with the first runout of what it leaves
pub choice_follows : (unseen left chosen next left' : List ℕ) (slots : List Slot) (d : Slot) (sets old later : List (List ℕ)) → AtSlot unseen left chosen slots d sets
    → Ends (runouts left (counts_of (take (length slots - 1) (drop 1 slots)))) (take (length sets - 1) (drop 1 sets))
    → Follows (choose (get_or slots 0 d).count unseen) chosen next → left' ≡ minus unseen next
    → Begins (runouts left' (counts_of (take (length slots - 1) (drop 1 slots)))) later → 0 < length old
    → Follows (runouts unseen (counts_of slots)) sets (put_mid 1 (length (set old 0 next) - 1) (set old 0 next) later)
choice_follows unseen left chosen next left' [] d sets old later k f g l b i = absurd (let z = k.some_slot in omega arith)
choice_follows unseen left chosen next left' (s ∷ slots) d [] old later k f g l b i = absurd (let z = k.some_set in omega arith)
choice_follows unseen left chosen next left' (s ∷ slots) d (x ∷ sets) [] later k f g l b i = absurd (omega arith)
choice_follows unseen left chosen next left' (s ∷ slots) d (x ∷ sets) (o ∷ old) later k f g l b i =
    let whole : left ≡ left_by unseen x = k.others ∙ minus_left unseen chosen k.rises ∙ ap (λ v. left_by unseen v) k.first in
    let whole' : left' ≡ left_by unseen next = l ∙ minus_left unseen next k.rises in
    let P : List (List ℕ) → Type 0 = λ v. Ends (runouts left (counts_of (take (suc (length slots) - 1) slots))) v in
    let Q : List Slot → Type 0 = λ v. Ends (runouts left (counts_of v)) sets in
    let R : List ℕ → Type 0 = λ v. Ends (runouts v (counts_of slots)) sets in
    let S : List ℕ → Type 0 = λ v. Follows (choose s.count unseen) v next in
    let T : List Slot → Type 0 = λ v. Begins (runouts left' (counts_of v)) later in
    let U : List ℕ → Type 0 = λ v. Begins (runouts v (counts_of slots)) later in
    let W : List (List ℕ) → Type 0 = λ v. Follows (runouts unseen (counts_of (s ∷ slots))) (x ∷ sets) v in
    let first : Begins (runouts (left_by unseen next) (counts_of slots)) later = subst U whole' (subst T (rest_of slots) b) in
    subst W (sym (put_rest next old later)) (next_choice_first unseen s.count (counts_of slots) x next sets later first.0 (subst R whole (subst Q (rest_of slots) (subst P (rest_of sets) f))) (subst S k.first g) first.1)

-- with no slot there is one runout
pub no_slots : (unseen : List ℕ) (slots : List Slot) (sets : List (List ℕ)) → length slots < 1 → Ends (runouts unseen (counts_of slots)) sets
no_slots unseen [] sets h = no_slot_ends unseen sets
no_slots unseen (s ∷ slots) sets h = absurd (omega arith)

pub is_zero : (n : ℕ) → (n == 0) ≡ true → n ≡ 0
is_zero n h = grind arith

-- with one slot, the last choice is the last runout, and what follows among the choices follows among the runouts
pub only_slot_ends : (unseen left chosen : List ℕ) (slots : List Slot) (d : Slot) (sets : List (List ℕ)) → AtSlot unseen left chosen slots d sets → length (take (length slots - 1) (drop 1 slots)) ≡ 0
    → Ends (choose (get_or slots 0 d).count unseen) chosen → Ends (runouts unseen (counts_of slots)) sets
only_slot_ends unseen left chosen slots d sets k none e =
    (later_ends unseen left chosen slots d sets (take (length sets - 1) (drop 1 sets)) k (no_slots left (take (length slots - 1) (drop 1 slots)) (take (length sets - 1) (drop 1 sets)) (omega arith)) refl e).0

pub only_slot_follows : (unseen left chosen next : List ℕ) (slots : List Slot) (d : Slot) (sets : List (List ℕ)) → AtSlot unseen left chosen slots d sets → length (take (length slots - 1) (drop 1 slots)) ≡ 0 → length slots ≡ length sets
    → Follows (choose (get_or slots 0 d).count unseen) chosen next → Follows (runouts unseen (counts_of slots)) sets (set sets 0 next)
only_slot_follows unseen left chosen next [] d sets k none same f = absurd (let z = k.some_slot in omega arith)
only_slot_follows unseen left chosen next (s ∷ t ∷ slots) d sets k none same f = absurd (omega (arith, ap length (rest_of (t ∷ slots))))
only_slot_follows unseen left chosen next (s ∷ []) d [] k none same f = absurd (omega arith)
only_slot_follows unseen left chosen next (s ∷ []) d (x ∷ y ∷ sets) k none same f = absurd (omega arith)
only_slot_follows unseen left chosen next (s ∷ []) d (x ∷ []) k none same f =
    let P : List (List ℕ) → Type 0 = λ v. Follows (runouts unseen (counts_of (s ∷ []))) (x ∷ []) v in
    subst P (put_rest next [] []) (choice_follows unseen left chosen next (minus unseen next) (s ∷ []) d (x ∷ []) (x ∷ []) [] k (no_slots left [] [] (omega arith)) f refl ([], refl) (omega arith))

-- the parts after the first
pub same_rest : {X Y : Type 0} (xs : List X) (ys : List Y) → length xs ≡ length ys → length (take (length xs - 1) (drop 1 xs)) ≡ length (take (length ys - 1) (drop 1 ys))
same_rest [] [] h = refl
same_rest [] (y ∷ ys) h = absurd (omega arith)
same_rest (x ∷ xs) [] h = absurd (omega arith)
same_rest (x ∷ xs) (y ∷ ys) h = omega (arith, ap length (rest_of xs), ap length (rest_of ys))

pub some_left : {X : Type 0} (xs ys : List X) → 0 < length xs → 0 < length (put_mid 1 (length xs - 1) xs ys)
some_left [] ys h = absurd (omega arith)
some_left (x ∷ xs) ys h = omega (arith, ap length (put_rest x xs ys))

-- ---- the same of choices of as many as were chosen
pub chosen_member : (unseen left chosen : List ℕ) (slots : List Slot) (d : Slot) (sets : List (List ℕ)) → AtSlot unseen left chosen slots d sets → HasMember (choose (length chosen) unseen) chosen
chosen_member unseen left chosen slots d sets k =
    let m = first_member unseen left chosen slots d sets k in
    let P : ℕ → Type 0 = λ n. HasMember (choose n unseen) chosen in
    subst P (as_many (get_or slots 0 d).count unseen chosen m.0) m.0

pub next_follows : (unseen left chosen next : List ℕ) (slots : List Slot) (d : Slot) (sets : List (List ℕ)) → AtSlot unseen left chosen slots d sets → Follows (choose (length chosen) unseen) chosen next → Follows (choose (get_or slots 0 d).count unseen) chosen next
next_follows unseen left chosen next slots d sets k f =
    let m = first_member unseen left chosen slots d sets k in
    let P : ℕ → Type 0 = λ n. Follows (choose n unseen) chosen next in
    subst P (sym (as_many (get_or slots 0 d).count unseen chosen m.0)) f

pub chosen_ends : (unseen left chosen : List ℕ) (slots : List Slot) (d : Slot) (sets : List (List ℕ)) → AtSlot unseen left chosen slots d sets → Ends (choose (length chosen) unseen) chosen → Ends (choose (get_or slots 0 d).count unseen) chosen
chosen_ends unseen left chosen slots d sets k e =
    let m = first_member unseen left chosen slots d sets k in
    let P : ℕ → Type 0 = λ n. Ends (choose n unseen) chosen in
    subst P (sym (as_many (get_or slots 0 d).count unseen chosen m.0)) e

-- enough cards are left for the other slots
pub enough_left : (unseen left chosen : List ℕ) (slots : List Slot) (d : Slot) (sets : List (List ℕ)) → AtSlot unseen left chosen slots d sets → sum (counts_of (take (length slots - 1) (drop 1 slots))) ≤ length left
enough_left unseen left chosen slots d sets k =
    let m = first_member unseen left chosen slots d sets k in
    omega (arith, k.enough, choice_left (get_or slots 0 d).count unseen chosen k.rises m.0, sum_slots slots d k.some_slot, ap length k.others)

pub enough_next : (unseen left chosen next left' : List ℕ) (slots : List Slot) (d : Slot) (sets : List (List ℕ)) → AtSlot unseen left chosen slots d sets → Follows (choose (length chosen) unseen) chosen next → left' ≡ minus unseen next
    → sum (counts_of (take (length slots - 1) (drop 1 slots))) ≤ length left'
enough_next unseen left chosen next left' slots d sets k f l =
    let m = first_member unseen left chosen slots d sets k in
    let n = HasMember-next (choose (get_or slots 0 d).count unseen) chosen next m.0 (next_follows unseen left chosen next slots d sets k f) in
    omega (arith, k.enough, choice_left (get_or slots 0 d).count unseen next k.rises n, sum_slots slots d k.some_slot, ap length l)

-- a runout has as many sets as its shape has slots
pub same_used : (unseen : List ℕ) (u v : ℕ) (slots : List Slot) (sets : List (List ℕ)) → u ≤ length slots → v ≤ length sets → HasMember (runouts unseen (counts_of (take u slots))) (take v sets) → v ≡ u
same_used unseen u v slots sets few few' m =
    let l : length (take v sets) ≡ length (counts_of (take u slots)) = length-runout (counts_of (take u slots)) unseen (take v sets) m in
    let n : length (counts_of (take u slots)) ≡ length (take u slots) = length-map (take u slots) (λ s. s.count) in
    omega (arith, length-take-le v sets few', length-take-le u slots few)

-- a runout is what its slots hold, also after they are written
pub whole_follows : (b : Bool) (all : List (List (List ℕ))) (u v : ℕ) (sets later r : List (List ℕ)) → v ≡ u → length later ≡ u → take v sets ≡ r
    → MatchBool b (Follows all (take u sets) later) (Ends all (take u sets) × (later ≡ take u sets))
    → MatchBool b (Follows all r (take v (later ++ drop u sets))) (Ends all r × (take v (later ++ drop u sets) ≡ r))
whole_follows b all u v sets later r same long view m =
    let now : take u sets ≡ r = ap (λ n. take n sets) (sym same) ∙ view in
    let next : take v (later ++ drop u sets) ≡ later = take_at later (drop u sets) v (long ∙ sym same) in
    let P : List (List ℕ) → Type 0 = λ x. MatchBool b (Follows all x later) (Ends all x × (later ≡ x)) in
    let Q : List (List ℕ) → Type 0 = λ y. MatchBool b (Follows all r y) (Ends all r × (y ≡ r)) in
    subst Q (sym next) (subst P now m)
