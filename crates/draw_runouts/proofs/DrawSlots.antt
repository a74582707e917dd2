-- Slots of hands: which is the last, and what each hand is dealt.
use Rattle.std.proofs.Common.{◌≡◌, ℕ, zero, suc, ◌+◌, ◌-◌, ◌<◌, ◌≤◌, ◌==◌, Bool, true, false, cond, List, [], ◌∷◌, ◌++◌, length, drop, get_or, refl, sym, ap, ◌∙◌, arith, subst, inl, inr}
use Rattle.std.specs.Prelude.{nat_lt, slice_index_or}
use Rattle.std.proofs.lemmas.Bool.{cases_eq}
use Rattle.std.proofs.lemmas.List.{drop-drop, drop_more, get_or-drop}
use Rattle.card_sets.specs.Cards.{IsRising}
use Rattle.card_sets.specs.Games.{own_size, board_size}
use Rattle.card_sets.specs.State.{State}
use Rattle.runout_ranges.specs.Runouts.{left_by}
use Rattle.runout_ranges.specs.Slots.{slot_of, hand_slots, counts_of, dealt, slots, same_receiver}
use Rattle.runout_ranges.specs.declared.shapes.Receiver.{Receiver}
use Rattle.runout_ranges.specs.declared.shapes.Receiver.TheVariants.{Board, Hand}
use Rattle.runout_ranges.specs.declared.shapes.Slot.{Slot}
use Rattle.showdown_tally.proofs.CallerLemmas.{Deals, no_earlier}
use Rattle.draw_runouts.specs.Draws.{hand_at, last_hand}
use Rattle.runout_walk.specs.Listing.{last_count}

-- the last of some slots, by its place
pub last_at : (some : List Slot) (d : Slot) → 0 < length some → (last_hand some ≡ hand_at (get_or some (length some - 1) d).receiver) × (last_count some ≡ (get_or some (length some - 1) d).count)
last_at [] d h = absurd (omega arith)
last_at (slot ∷ []) d h = (refl, refl)
last_at (slot ∷ next ∷ some) d h =
    let ih = last_at (next ∷ some) d (omega arith) in
    let a : suc (length some) - 1 ≡ length some = omega arith in
    let b : suc (suc (length some)) - 1 ≡ suc (length some) = omega arith in
    let P : ℕ → Type 0 = λ n. (last_hand (next ∷ some) ≡ hand_at (get_or (next ∷ some) n d).receiver) × (last_count (next ∷ some) ≡ (get_or (next ∷ some) n d).count) in
    let Q : ℕ → Type 0 = λ n. (last_hand (next ∷ some) ≡ hand_at (get_or (slot ∷ next ∷ some) n d).receiver) × (last_count (next ∷ some) ≡ (get_or (slot ∷ next ∷ some) n d).count) in
    subst Q (sym b) (subst P a ih)

pub last_is : (some : List Slot) → (last_hand some ≡ hand_at (get_or some (length some - 1) (record { receiver = Board; count = 0 })).receiver) × (last_count some ≡ (get_or some (length some - 1) (record { receiver = Board; count = 0 })).count)
last_is [] = (refl, refl)
last_is (slot ∷ some) = last_at (slot ∷ some) (record { receiver = Board; count = 0 }) (omega arith)

-- where the last slot takes cards there is one
pub some_slots : (some : List Slot) → 0 < last_count some → 0 < length some
some_slots [] h = absurd (omega arith)
some_slots (slot ∷ some) h = omega arith

-- without a board the slots are the hands'
pub no_board_slots : (st : State) → board_size st.game ≡ 0 → slots st ≡ hand_slots (own_size st.game) 0 st.hands
no_board_slots st e =
    let none : board_size st.game - length st.board ≡ 0 = omega arith in
    ap (λ n. slot_of Board n ++ hand_slots (own_size st.game) 0 st.hands) none

dealt_none : (some : List Slot) (r : Receiver) → dealt some [] r ≡ []
dealt_none [] r = refl
dealt_none (slot ∷ some) r = refl

-- a hand is dealt the next set where it lacks cards
pub dealt_here : (size h : ℕ) (own : List ℕ) (rest sets : List (List ℕ)) → dealt (hand_slots size h (own ∷ rest)) sets (Hand h) ≡ cond (nat_lt (length own) size) (slice_index_or sets 0 []) []
dealt_here size h own rest sets = one (size - length own) refl sets
  where
    one : (n : ℕ) → size - length own ≡ n → (sets : List (List ℕ)) → dealt (slot_of (Hand h) n ++ hand_slots size (h + 1) rest) sets (Hand h) ≡ cond (nat_lt (length own) size) (slice_index_or sets 0 []) []
    one zero e sets =
        let le : size ≤ length own = omega arith in
        let f : nat_lt (length own) size ≡ false = grind arith in
        rw f (no_earlier size (h + 1) rest sets h (omega arith))
    one (suc n) e [] =
        let lt : length own < size = omega arith in
        let t : nat_lt (length own) size ≡ true = grind arith in
        rw t refl
    one (suc n) e (set ∷ sets) =
        let lt : length own < size = omega arith in
        let t : nat_lt (length own) size ≡ true = grind arith in
        let same : (h == h) ≡ true = grind arith in
        rw (t, same) refl

-- and later hands the sets after it
pub dealt_later : (size h k : ℕ) (own : List ℕ) (rest sets : List (List ℕ)) → h < k → dealt (hand_slots size h (own ∷ rest)) sets (Hand k) ≡ dealt (hand_slots size (h + 1) rest) (drop (cond (nat_lt (length own) size) 1 0) sets) (Hand k)
dealt_later size h k own rest sets l = one (size - length own) refl sets
  where
    one : (n : ℕ) → size - length own ≡ n → (sets : List (List ℕ)) → dealt (slot_of (Hand h) n ++ hand_slots size (h + 1) rest) sets (Hand k) ≡ dealt (hand_slots size (h + 1) rest) (drop (cond (nat_lt (length own) size) 1 0) sets) (Hand k)
    one zero e sets =
        let le : size ≤ length own = omega arith in
        let f : nat_lt (length own) size ≡ false = grind arith in
        rw f refl
    one (suc n) e [] =
        let lt : length own < size = omega arith in
        let t : nat_lt (length own) size ≡ true = grind arith in
        rw t (sym (dealt_none (hand_slots size (h + 1) rest) (Hand k)))
    one (suc n) e (set ∷ sets) =
        let lt : length own < size = omega arith in
        let t : nat_lt (length own) size ≡ true = grind arith in
        let other : (h == k) ≡ false = grind arith in
        rw (t, other) refl

-- the same, hand after hand
pub dealing_here : (size h place : ℕ) (hands sets : List (List ℕ)) (own : List ℕ) → h < length hands → own ≡ slice_index_or hands h [] → dealt (hand_slots size 0 hands) sets (Hand h) ≡ dealt (hand_slots size h (drop h hands)) (drop place sets) (Hand h)
    → dealt (hand_slots size 0 hands) sets (Hand h) ≡ cond (nat_lt (length own) size) (slice_index_or sets place []) []
dealing_here size h place hands sets own inside is so_far =
    let here : place + 0 ≡ place = omega arith in
    so_far
    ∙ ap (λ l. dealt (hand_slots size h l) (drop place sets) (Hand h)) (drop_more hands h [] inside ∙ ap (λ v. v ∷ drop (h + 1) hands) (sym is))
    ∙ dealt_here size h own (drop (h + 1) hands) (drop place sets)
    ∙ ap (λ s. cond (nat_lt (length own) size) s []) (get_or-drop place sets 0 [] ∙ ap (λ n. slice_index_or sets n []) here)

pub dealing_next : (size h place more k : ℕ) (hands sets : List (List ℕ)) (own : List ℕ) → h < length hands → own ≡ slice_index_or hands h [] → h < k → more ≡ cond (nat_lt (length own) size) 1 0
    → dealt (hand_slots size 0 hands) sets (Hand k) ≡ dealt (hand_slots size h (drop h hands)) (drop place sets) (Hand k)
    → dealt (hand_slots size 0 hands) sets (Hand k) ≡ dealt (hand_slots size (h + 1) (drop (h + 1) hands)) (drop (place + more) sets) (Hand k)
dealing_next size h place more k hands sets own inside is up one so_far =
    so_far
    ∙ ap (λ l. dealt (hand_slots size h l) (drop place sets) (Hand k)) (drop_more hands h [] inside ∙ ap (λ v. v ∷ drop (h + 1) hands) (sym is))
    ∙ dealt_later size h k own (drop (h + 1) hands) (drop place sets) up
    ∙ ap (λ s. dealt (hand_slots size (h + 1) (drop (h + 1) hands)) s (Hand k)) (drop-drop (cond (nat_lt (length own) size) 1 0) place sets ∙ ap (λ n. drop (place + n) sets) (sym one))

-- the last slot of hands, of which the first has a number
pub record IsLastOf (size number : ℕ) (hands : List (List ℕ)) : Type 0 where
  pub from : number ≤ last_hand (hand_slots size number hands)
  pub inside : last_hand (hand_slots size number hands) < number + length hands
  pub some : 0 < last_count (hand_slots size number hands)

-- slots that end with one of some hands
abbrev EndsAt : ℕ → ℕ → List Slot → Type 0
EndsAt number end some = (number ≤ last_hand some) × (last_hand some < end) × (0 < last_count some)

pub last_of_hands : (size number : ℕ) (hands : List (List ℕ)) → 0 < length (hand_slots size number hands) → IsLastOf size number hands
last_of_hands size number [] h = absurd (omega arith)
last_of_hands size number (hand ∷ hands) h =
    let is = all (last_of_hands size (number + 1) hands) (size - length hand) h in
    record { from = is.0; inside = is.1; some = is.2 }
  where
    later : IsLastOf size (number + 1) hands → EndsAt number (number + suc (length hands)) (hand_slots size (number + 1) hands)
    later is = ((let a = is.from in omega arith), (let b = is.inside in omega arith), is.some)

    made : (n : ℕ) → (0 < length (hand_slots size (number + 1) hands) → IsLastOf size (number + 1) hands) → (l : List Slot) → hand_slots size (number + 1) hands ≡ l → EndsAt number (number + suc (length hands)) (record { receiver = Hand number; count = suc n } ∷ l)
    made n ih [] e = (omega arith, omega arith, omega arith)
    made n ih (slot ∷ l) e =
        let is = later (ih (let s = ap length e in omega arith)) in
        subst (EndsAt number (number + suc (length hands))) e is

    all : (0 < length (hand_slots size (number + 1) hands) → IsLastOf size (number + 1) hands) → (n : ℕ) → 0 < length (slot_of (Hand number) n ++ hand_slots size (number + 1) hands) → EndsAt number (number + suc (length hands)) (slot_of (Hand number) n ++ hand_slots size (number + 1) hands)
    all ih zero h = later (ih h)
    all ih (suc n) h = made n ih (hand_slots size (number + 1) hands) refl

-- the last hand is dealt the last set
pub last_set : (size number : ℕ) (hands front : List (List ℕ)) (x : List ℕ) → suc (length front) ≡ length (hand_slots size number hands)
    → dealt (hand_slots size number hands) (front ++ x ∷ []) (Hand (last_hand (hand_slots size number hands))) ≡ x
last_set size number [] front x e = absurd (omega arith)
last_set size number (hand ∷ hands) front x e = all (λ f h. last_set size (number + 1) hands f x h) (size - length hand) front e
  where
    made : (n : ℕ) → ((f : List (List ℕ)) → suc (length f) ≡ length (hand_slots size (number + 1) hands) → dealt (hand_slots size (number + 1) hands) (f ++ x ∷ []) (Hand (last_hand (hand_slots size (number + 1) hands))) ≡ x)
        → (l : List Slot) → hand_slots size (number + 1) hands ≡ l → (f : List (List ℕ)) → suc (length f) ≡ suc (length l)
        → dealt (record { receiver = Hand number; count = suc n } ∷ l) (f ++ x ∷ []) (Hand (last_hand (record { receiver = Hand number; count = suc n } ∷ l))) ≡ x
    made n ih [] s [] h = let same : (number == number) ≡ true = grind arith in rw same refl
    made n ih [] s (set ∷ f) h = absurd (omega arith)
    made n ih (slot ∷ l) s [] h = absurd (omega arith)
    made n ih (slot ∷ l) s (set ∷ f) h =
        let some : 0 < length (hand_slots size (number + 1) hands) = (let k = ap length s in omega arith) in
        let is = last_of_hands size (number + 1) hands some in
        let up : number + 1 ≤ last_hand (slot ∷ l) = (let a = is.from in let k = ap last_hand s in omega arith) in
        let other : (number == last_hand (slot ∷ l)) ≡ false = grind arith in
        let P : List Slot → Type 0 = λ k. dealt k (f ++ x ∷ []) (Hand (last_hand k)) ≡ x in
        rw other (subst P s (ih f (let k = ap length s in omega arith)))

    all : ((f : List (List ℕ)) → suc (length f) ≡ length (hand_slots size (number + 1) hands) → dealt (hand_slots size (number + 1) hands) (f ++ x ∷ []) (Hand (last_hand (hand_slots size (number + 1) hands))) ≡ x)
        → (n : ℕ) (f : List (List ℕ)) → suc (length f) ≡ length (slot_of (Hand number) n ++ hand_slots size (number + 1) hands)
        → dealt (slot_of (Hand number) n ++ hand_slots size (number + 1) hands) (f ++ x ∷ []) (Hand (last_hand (slot_of (Hand number) n ++ hand_slots size (number + 1) hands))) ≡ x
    all ih zero f h = ih f h
    all ih (suc n) f h = made n ih (hand_slots size (number + 1) hands) refl f h

not_last : (r : Receiver) (h : ℕ) → (h ≡ hand_at r → ⊥) → same_receiver r (Hand h) ≡ false
not_last Board h ne = refl
not_last (Hand a) h ne = elim (cases_eq a h) [ inl e ↦ absurd (ne (sym e)) | inr other ↦ grind arith ]

if_not : (b : Bool) (x : List ℕ) → b ≡ false → cond b x [] ≡ []
if_not true x e = cc
if_not false x e = refl

-- the others are dealt what they are without it
pub other_set : (some : List Slot) (front : List (List ℕ)) (x : List ℕ) (h : ℕ) → suc (length front) ≡ length some → (h ≡ last_hand some → ⊥) → dealt some (front ++ x ∷ []) (Hand h) ≡ dealt some front (Hand h)
other_set [] front x h e ne = absurd (omega arith)
other_set (slot ∷ []) [] x h e ne = if_not (same_receiver slot.receiver (Hand h)) x (not_last slot.receiver h ne)
other_set (slot ∷ []) (set ∷ front) x h e ne = absurd (omega arith)
other_set (slot ∷ next ∷ some) [] x h e ne = absurd (omega arith)
other_set (slot ∷ next ∷ some) (set ∷ front) x h e ne = ap (λ l. cond (same_receiver slot.receiver (Hand h)) set l) (other_set (next ∷ some) front x h (omega arith) ne)

-- the last set has the cards that the last slot takes
pub last_deal : (some : List Slot) (cards : List ℕ) (front : List (List ℕ)) (x : List ℕ) → Deals cards (counts_of some) (front ++ x ∷ []) → suc (length front) ≡ length some → (length x ≡ last_count some) × IsRising x
last_deal [] cards front x d e = absurd (omega arith)
last_deal (slot ∷ []) cards [] x d e = (d.0.0, d.0.1)
last_deal (slot ∷ []) cards (set ∷ front) x d e = absurd (omega arith)
last_deal (slot ∷ next ∷ some) cards [] x d e = absurd (omega arith)
last_deal (slot ∷ next ∷ some) cards (set ∷ front) x d e = last_deal (next ∷ some) (left_by cards set) front x d.1 (omega arith)
