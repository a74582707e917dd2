-- What slots give each receiver, where each has one slot at most.
use Rattle.std.proofs.Common.{◌≡◌, ℕ, zero, suc, ◌+◌, ◌-◌, ◌<◌, ◌≤◌, List, [], ◌∷◌, ◌++◌, length, map, refl, sym, ap, ◌∙◌, inl, inr, arith, Bool, true, false, cond, ◌||◌, ◌==◌, subst}
use Rattle.std.specs.List.{list_any}
use Rattle.std.specs.Prelude.{slice_index_or}
use Rattle.std.proofs.lemmas.Bool.{cases_eq}
use mathlib.Core.Bool.{true≢false}
use Rattle.card_sets.specs.Cards.{has_card}
use Rattle.card_sets.specs.declared.games.Game.{Game}
use Rattle.runout_ranges.specs.Slots.{slot_of, hand_slots, counts_of, same_receiver, dealt}
use Rattle.runout_ranges.specs.declared.shapes.Receiver.{Receiver}
use Rattle.runout_ranges.specs.declared.shapes.Receiver.TheVariants.{Board, Hand}
use Rattle.runout_ranges.specs.declared.shapes.Slot.{Slot}
use Rattle.street_walk.specs.Streets.{gets, next_of}
use Rattle.street_walk.proofs.Picks.{Alike, AllAlike, joined}
use Rattle.street_walk.proofs.StreetParts.{gets_none, rest_of}
use Rattle.street_walk.proofs.EmptySlots.{lacking, padded, padded_one}

-- ---- each receiver has one slot at most

abbrev pub has_slot : Receiver → List Slot → Bool
has_slot who some = list_any (λ s. same_receiver s.receiver who) some

abbrev pub Distinct : List Slot → Type 0
Distinct [] = Unit {0}
Distinct (s ∷ some) = (has_slot s.receiver some ≡ false) × Distinct some

same_to : (a b : Receiver) → same_receiver a b ≡ true → (P : Receiver → Type 0) → P a → P b
same_to Board Board h P p = p
same_to Board (Hand j) h P p = absurd (true≢false (sym h))
same_to (Hand i) Board h P p = absurd (true≢false (sym h))
same_to (Hand i) (Hand j) h P p = elim (cases_eq i j) [
  | inl e ↦ let Q : ℕ → Type 0 = λ n. P (Hand n) in subst Q e p
  | inr ne ↦ let f : (i == j) ≡ false = grind arith in absurd (true≢false (sym h ∙ f))
]

or_parts : (a b : Bool) → (a || b) ≡ false → (a ≡ false) × (b ≡ false)
or_parts true b h = absurd (true≢false h)
or_parts false b h = (refl, h)

-- nothing is dealt to whom no slot is for
pub dealt_absent : (some : List Slot) (sets : List (List ℕ)) (who : Receiver) → has_slot who some ≡ false → dealt some sets who ≡ []
dealt_absent [] sets who h = refl
dealt_absent (s ∷ some) [] who h = refl
dealt_absent (s ∷ some) (set ∷ sets) who h =
    let p = or_parts (same_receiver s.receiver who) (has_slot who some) h in
    rw (p.0) (dealt_absent some sets who p.1)

lacking_absent : (some : List Slot) (who : Receiver) → has_slot who some ≡ false → has_slot who (lacking some) ≡ false
lacking_absent [] who h = refl
lacking_absent (s ∷ some) who h =
    let p = or_parts (same_receiver s.receiver who) (has_slot who some) h in
    elim (s.count) as (λ n. has_slot who (slot_of s.receiver n ++ lacking some) ≡ false) [
      | zero ↦ lacking_absent some who p.1
      | suc n ↦ rw (p.0) (lacking_absent some who p.1)
    ]

dealt_nothing : (some : List Slot) (who : Receiver) → dealt some [] who ≡ []
dealt_nothing [] who = refl
dealt_nothing (s ∷ some) who = refl

-- a padded runout deals what the runout does
pub dealt_padded : (some : List Slot) (sets : List (List ℕ)) (who : Receiver) → Distinct some → dealt some (padded some sets) who ≡ dealt (lacking some) sets who
dealt_padded [] sets who d = refl
dealt_padded (s ∷ some) sets who d = elim (s.count) as (λ n. dealt (s ∷ some) (padded_one n (padded some) sets) who ≡ dealt (slot_of s.receiver n ++ lacking some) sets who) [
  | zero ↦ elim (same_receiver s.receiver who) as (λ b. same_receiver s.receiver who ≡ b → cond b [] (dealt some (padded some sets) who) ≡ dealt (lacking some) sets who) [
    | true ↦ λ e. sym (dealt_absent (lacking some) sets who (lacking_absent some who (same_to s.receiver who e (λ w. has_slot w some ≡ false) d.0)))
    | false ↦ λ e. dealt_padded some sets who d.1
  ] refl
  | suc n ↦ one (λ others. dealt_padded some others who d.1) n sets
]
  where
    one : ((others : List (List ℕ)) → dealt some (padded some others) who ≡ dealt (lacking some) others who) → (n : ℕ) (sets : List (List ℕ)) → dealt (s ∷ some) (padded_one (suc n) (padded some) sets) who ≡ dealt (slot_of s.receiver (suc n) ++ lacking some) sets who
    one rest n [] = elim (same_receiver s.receiver who) as (λ b. cond b [] (dealt some (padded some []) who) ≡ []) [
      | true ↦ refl
      | false ↦ rest [] ∙ dealt_nothing (lacking some) who
    ]
    one rest n (set ∷ sets) = ap (λ l. cond (same_receiver s.receiver who) set l) (rest sets)

pub absent_board : (size number : ℕ) (hands : List (List ℕ)) → has_slot Board (hand_slots size number hands) ≡ false
absent_board size number [] = refl
absent_board size number (hand ∷ hands) = elim (size - length hand) as (λ n. has_slot Board (slot_of (Hand number) n ++ hand_slots size (number + 1) hands) ≡ false) [
  | zero ↦ absent_board size (number + 1) hands
  | suc n ↦ absent_board size (number + 1) hands
]

pub absent_below : (size number : ℕ) (hands : List (List ℕ)) (i : ℕ) → i < number → has_slot (Hand i) (hand_slots size number hands) ≡ false
absent_below size number [] i l = refl
absent_below size number (hand ∷ hands) i l =
    let f : (number == i) ≡ false = grind arith in
    elim (size - length hand) as (λ n. has_slot (Hand i) (slot_of (Hand number) n ++ hand_slots size (number + 1) hands) ≡ false) [
      | zero ↦ absent_below size (number + 1) hands i (omega arith)
      | suc n ↦ rw f (absent_below size (number + 1) hands i (omega arith))
    ]

pub absent_above : (size number : ℕ) (hands : List (List ℕ)) (i : ℕ) → number + length hands ≤ i → has_slot (Hand i) (hand_slots size number hands) ≡ false
absent_above size number [] i l = refl
absent_above size number (hand ∷ hands) i l =
    let f : (number == i) ≡ false = (let lt : number < i = omega arith in grind arith) in
    elim (size - length hand) as (λ n. has_slot (Hand i) (slot_of (Hand number) n ++ hand_slots size (number + 1) hands) ≡ false) [
      | zero ↦ absent_above size (number + 1) hands i (omega arith)
      | suc n ↦ rw f (absent_above size (number + 1) hands i (omega arith))
    ]

pub distinct_hands : (size number : ℕ) (hands : List (List ℕ)) → Distinct (hand_slots size number hands)
distinct_hands size number [] = tt
distinct_hands size number (hand ∷ hands) = elim (size - length hand) as (λ n. Distinct (slot_of (Hand number) n ++ hand_slots size (number + 1) hands)) [
  | zero ↦ distinct_hands size (number + 1) hands
  | suc n ↦ (absent_below size (number + 1) hands number (omega arith), distinct_hands size (number + 1) hands)
]

pub distinct_all : (board size : ℕ) (hands : List (List ℕ)) → Distinct (slot_of Board board ++ hand_slots size 0 hands)
distinct_all zero size hands = distinct_hands size 0 hands
distinct_all (suc n) size hands = (absent_board size 0 hands, distinct_hands size 0 hands)

absent_rest : (game : Game) (some : List Slot) (who : Receiver) → has_slot who some ≡ false → has_slot who (rest_of game some) ≡ false
absent_rest game [] who h = refl
absent_rest game (s ∷ some) who h =
    let p = or_parts (same_receiver s.receiver who) (has_slot who some) h in
    rw (p.0) (absent_rest game some who p.1)

pub distinct_rest : (game : Game) (some : List Slot) → Distinct some → Distinct (rest_of game some)
distinct_rest game [] d = tt
distinct_rest game (s ∷ some) d = (absent_rest game some s.receiver d.0, distinct_rest game some d.1)

-- ---- what is dealt goes by the receivers alone

pub dealt_next : (game : Game) (some : List Slot) (sets : List (List ℕ)) (who : Receiver) → dealt (next_of game some) sets who ≡ dealt some sets who
dealt_next game [] sets who = refl
dealt_next game (s ∷ some) [] who = refl
dealt_next game (s ∷ some) (set ∷ sets) who = ap (λ l. cond (same_receiver s.receiver who) set l) (dealt_next game some sets who)

pub dealt_rest : (game : Game) (some : List Slot) (sets : List (List ℕ)) (who : Receiver) → dealt (rest_of game some) sets who ≡ dealt some sets who
dealt_rest game [] sets who = refl
dealt_rest game (s ∷ some) [] who = refl
dealt_rest game (s ∷ some) (set ∷ sets) who = ap (λ l. cond (same_receiver s.receiver who) set l) (dealt_rest game some sets who)

-- two parts of a runout give a receiver what the whole does
pub dealt_joined : (some : List Slot) (now later : List (List ℕ)) (who : Receiver) → length now ≡ length later → Alike (dealt some (joined now later) who) (dealt some now who ++ dealt some later who)
dealt_joined [] now later who e card = refl
dealt_joined (s ∷ some) [] [] who e card = refl
dealt_joined (s ∷ some) [] (r ∷ later) who e card = absurd (omega arith)
dealt_joined (s ∷ some) (c ∷ now) [] who e card = absurd (omega arith)
dealt_joined (s ∷ some) (c ∷ now) (r ∷ later) who e card =
    elim (same_receiver s.receiver who) as (λ b. has_card (cond b (c ++ r) (dealt some (joined now later) who)) card ≡ has_card (cond b c (dealt some now who) ++ cond b r (dealt some later who)) card) [
      | true ↦ refl
      | false ↦ dealt_joined some now later who (omega arith) card
    ]

-- runouts of the same cards deal the same cards
pub dealt_alike : (some : List Slot) (sets others : List (List ℕ)) (who : Receiver) → AllAlike sets others → Alike (dealt some sets who) (dealt some others who)
dealt_alike [] sets others who e card = refl
dealt_alike (s ∷ some) [] [] who e card = refl
dealt_alike (s ∷ some) [] (b ∷ others) who e card = absurd e
dealt_alike (s ∷ some) (a ∷ sets) [] who e card = absurd e
dealt_alike (s ∷ some) (a ∷ sets) (b ∷ others) who e card =
    elim (same_receiver s.receiver who) as (λ t. has_card (cond t a (dealt some sets who)) card ≡ has_card (cond t b (dealt some others who)) card) [
      | true ↦ e.0 card
      | false ↦ dealt_alike some sets others who e.1 card
    ]

-- ---- how many cards a receiver lacks

abbrev pub lack : List Slot → Receiver → ℕ
lack [] who = 0
lack (s ∷ some) who = cond (same_receiver s.receiver who) s.count (lack some who)

pub dealt_length : (some : List Slot) (sets : List (List ℕ)) (who : Receiver) → map length sets ≡ counts_of some → length (dealt some sets who) ≡ lack some who
dealt_length [] sets who e = refl
dealt_length (s ∷ some) [] who e = cc
dealt_length (s ∷ some) (set ∷ sets) who e =
    let here : length set ≡ s.count = cc in
    let later : map length sets ≡ counts_of some = cc in
    elim (same_receiver s.receiver who) as (λ b. length (cond b set (dealt some sets who)) ≡ cond b s.count (lack some who)) [
      | true ↦ here
      | false ↦ dealt_length some sets who later
    ]

pub lack_next : (game : Game) (some : List Slot) (who : Receiver) → lack (next_of game some) who ≡ gets game who (lack some who)
lack_next game [] who = sym (gets_none game who)
lack_next game (s ∷ some) who = elim (same_receiver s.receiver who) as (λ b. same_receiver s.receiver who ≡ b → cond b (gets game s.receiver s.count) (lack (next_of game some) who) ≡ gets game who (cond b s.count (lack some who))) [
  | true ↦ λ e. same_to s.receiver who e (λ w. gets game s.receiver s.count ≡ gets game w s.count) refl
  | false ↦ λ e. lack_next game some who
] refl

lack_absent : (some : List Slot) (who : Receiver) → has_slot who some ≡ false → lack some who ≡ 0
lack_absent [] who h = refl
lack_absent (s ∷ some) who h =
    let p = or_parts (same_receiver s.receiver who) (has_slot who some) h in
    rw (p.0) (lack_absent some who p.1)

pub lack_board : (board size : ℕ) (hands : List (List ℕ)) → lack (slot_of Board board ++ hand_slots size 0 hands) Board ≡ board
lack_board zero size hands = lack_absent (hand_slots size 0 hands) Board (absent_board size 0 hands)
lack_board (suc n) size hands = refl

lack_hands : (size number : ℕ) (hands : List (List ℕ)) (i : ℕ) (d : List ℕ) → i < length hands → lack (hand_slots size number hands) (Hand (number + i)) ≡ size - length (slice_index_or hands i d)
lack_hands size number [] i d l = absurd (omega arith)
lack_hands size number (hand ∷ hands) zero d l =
    let none : number + 0 ≡ number = omega arith in
    let t : (number == number) ≡ true = grind arith in
    rw none (elim (size - length hand) as (λ n. lack (slot_of (Hand number) n ++ hand_slots size (number + 1) hands) (Hand number) ≡ n) [
      | zero ↦ lack_absent (hand_slots size (number + 1) hands) (Hand number) (absent_below size (number + 1) hands number (omega arith))
      | suc n ↦ rw t refl
    ])
lack_hands size number (hand ∷ hands) (suc i) d l =
    let up : number + suc i ≡ (number + 1) + i = omega arith in
    let f : (number == (number + 1) + i) ≡ false = (let lt : number < (number + 1) + i = omega arith in grind arith) in
    let ih = lack_hands size (number + 1) hands i d (omega arith) in
    rw up (elim (size - length hand) as (λ n. lack (slot_of (Hand number) n ++ hand_slots size (number + 1) hands) (Hand ((number + 1) + i)) ≡ size - length (slice_index_or hands i d)) [
      | zero ↦ ih
      | suc n ↦ rw f ih
    ])

pub lack_hand : (board size : ℕ) (hands : List (List ℕ)) (i : ℕ) (d : List ℕ) → i < length hands → lack (slot_of Board board ++ hand_slots size 0 hands) (Hand i) ≡ size - length (slice_index_or hands i d)
lack_hand zero size hands i d l = let z : 0 + i ≡ i = omega arith in ap (λ k. lack (hand_slots size 0 hands) (Hand k)) (sym z) ∙ lack_hands size 0 hands i d l
lack_hand (suc n) size hands i d l = let z : 0 + i ≡ i = omega arith in ap (λ k. lack (hand_slots size 0 hands) (Hand k)) (sym z) ∙ lack_hands size 0 hands i d l
