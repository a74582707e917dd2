-- What the type of known cards keeps, it keeps after a street: no card in two places, and no set too large for its place.
use Rattle.std.proofs.Common.{◌≡◌, ℕ, zero, suc, ◌+◌, ◌-◌, ◌<◌, ◌≤◌, List, [], ◌∷◌, ◌++◌, length, take, drop, refl, sym, ap, ◌∙◌, subst, inl, inr, arith, Bool, true, false, ◌||◌, ◌&&◌, ◌==◌, not}
use Rattle.std.specs.Prelude.{slice_index_or, nat_le, All}
use Rattle.std.specs.List.{list_any, list_all}
use Rattle.std.proofs.lemmas.Bool.{cases_lt, and_parts}
use Rattle.std.proofs.lemmas.List.{take-append-drop, length-take-le}
use Rattle.std.proofs.lemmas.List.Elements.{All-head, All-tail}
use Rattle.std.proofs.Math.Seq.{take-append_seam, drop-append_seam}
use mathlib.Core.Bool.{true≢false}
use Rattle.card_sets.specs.Bits.{has-cards_where}
use Rattle.card_sets.specs.Cards.{has_card, union}
use Rattle.card_sets.specs.Disjoint.{apart, all_apart, all_empty}
use Rattle.card_sets.specs.Games.{own_size, board_size, all_fit}
use Rattle.card_sets.specs.Rising.{IsRising-cards_where}
use Rattle.card_sets.specs.State.{State}
use Rattle.card_sets.specs.declared.games.Game.{Game}
use Rattle.runout_ranges.specs.Runouts.{HasMember}
use Rattle.runout_ranges.specs.Slots.{slots, unseen, slot_of, hand_slots, counts_of, dealt}
use Rattle.runout_ranges.specs.Ways.{Within}
use Rattle.runout_ranges.specs.declared.shapes.Receiver.TheVariants.{Board, Hand}
use Rattle.runout_ranges.specs.declared.shapes.Slot.{Slot}
use Rattle.card_sets.proofs.CallerLemmas.{Apart-apart, apart-Apart, has_card-bound}
use Rattle.runout_ranges.proofs.CallerLemmas.{runout_fills}
use Rattle.showdown_tally.proofs.CallerLemmas.{list_all-index}
use Rattle.street_walk.specs.Streets.{next_slots, choices_of, hands_after, after}
use Rattle.street_walk.specs.StreetSums.{IsKnown}
use Rattle.street_walk.proofs.StreetParts.{gets_within}
use Rattle.street_walk.proofs.Receivers.{dealt_absent, absent_board, absent_below, dealt_next}
use Rattle.street_walk.proofs.StreetEnds.{length_after}
use Rattle.street_walk.proofs.AfterStreet.{skip_slot, hands_next, board_grows, hand_grows, choice_length}

abbrev bit : Bool → ℕ
bit true = 1
bit false = 0

-- how many of the sets have a card
abbrev holders : ℕ → List (List ℕ) → ℕ
holders k [] = 0
holders k (set ∷ sets) = bit (has_card set k) + holders k sets

is_false : (b : Bool) → (b ≡ true → ⊥) → b ≡ false
is_false true h = absurd (h refl)
is_false false h = refl

off : (b : Bool) → not b ≡ true → b ≡ false
off true h = absurd (true≢false (sym h))
off false h = refl

and_true : (a b : Bool) → a ≡ true → b ≡ true → (a && b) ≡ true
and_true true true x y = refl
and_true true false x y = y
and_true false b x y = x

neither : (a b : Bool) → (a || b) ≡ false → (a ≡ false) × (b ≡ false)
neither true b h = absurd (true≢false h)
neither false b h = (refl, h)

-- ---- no card is in two of the sets exactly where each is in one at most

none_hold : (s : List ℕ) (sets : List (List ℕ)) (k : ℕ) → list_all (apart s) sets ≡ true → has_card s k ≡ true → holders k sets ≡ 0
none_hold s [] k h x = refl
none_hold s (t ∷ sets) k h x =
    let hs = and_parts (apart s t) (list_all (apart s) sets) h in
    let out : bit (has_card t k) ≡ 0 = ap bit (is_false (has_card t k) (λ y. Apart-apart s t hs.0 k x y)) in
    omega (arith, out, none_hold s sets k hs.1 x)

apart-few : (sets : List (List ℕ)) (k : ℕ) → all_apart sets ≡ true → holders k sets ≤ 1
apart-few [] k h = omega arith
apart-few (s ∷ sets) k h =
    let hs = and_parts (list_all (apart s) sets) (all_apart sets) h in
    elim (has_card s k) as (λ b. has_card s k ≡ b → bit b + holders k sets ≤ 1) [
      | true ↦ λ e. omega (arith, none_hold s sets k hs.0 e)
      | false ↦ λ e. omega (arith, apart-few sets k hs.1)
    ] refl

all_off : (s : List ℕ) (sets : List (List ℕ)) → ((k : ℕ) → has_card s k ≡ true → holders k sets ≡ 0) → list_all (apart s) sets ≡ true
all_off s [] h = refl
all_off s (t ∷ sets) h =
    and_true (apart s t) (list_all (apart s) sets) (apart-Apart s t (λ k x y.
    let none : bit (has_card t k) + holders k sets ≡ 0 = h k x in
    let one : bit (has_card t k) ≡ 1 = ap bit y in
    omega arith))
    (all_off s sets (λ k x. let none : bit (has_card t k) + holders k sets ≡ 0 = h k x in omega arith))

few-apart : (sets : List (List ℕ)) → ((k : ℕ) → holders k sets ≤ 1) → all_apart sets ≡ true
few-apart [] h = refl
few-apart (s ∷ sets) h =
    and_true (list_all (apart s) sets) (all_apart sets) (all_off s sets (λ k x.
    let few : bit (has_card s k) + holders k sets ≤ 1 = h k in
    let one : bit (has_card s k) ≡ 1 = ap bit x in
    omega arith))
    (few-apart sets (λ k. let few : bit (has_card s k) + holders k sets ≤ 1 = h k in omega arith))

-- ---- who holds a card

holders-append : (k : ℕ) (xs ys : List (List ℕ)) → holders k (xs ++ ys) ≡ holders k xs + holders k ys
holders-append k [] ys = omega arith
holders-append k (x ∷ xs) ys = omega (arith, holders-append k xs ys)

empty_hold : (k : ℕ) (sets : List (List ℕ)) → all_empty sets ≡ true → holders k sets ≡ 0
empty_hold k [] h = refl
empty_hold k ([] ∷ sets) h =
    let hs = and_parts (nat_le 0 0) (all_empty sets) h in
    omega (arith, empty_hold k sets hs.1)
empty_hold k ((x ∷ s) ∷ sets) h =
    let hs = and_parts (nat_le (suc (length s)) 0) (all_empty sets) h in
    let f : nat_le (suc (length s)) 0 ≡ false = grind arith in
    absurd (true≢false (sym hs.0 ∙ f))

may_hold : (cards : List ℕ) (sets : List (List ℕ)) (k : ℕ) → All (λ set. Within set cards) sets → has_card cards k ≡ false → holders k sets ≡ 0
may_hold cards [] k h f = refl
may_hold cards (s ∷ sets) k h f =
    let out : bit (has_card s k) ≡ 0 = ap bit (is_false (has_card s k) (λ y. true≢false (sym (All-head (λ set. Within set cards) s sets h k y) ∙ f))) in
    omega (arith, out, may_hold cards sets k (All-tail (λ set. Within set cards) s sets h) f)

none_has : (k : ℕ) (sets : List (List ℕ)) → list_any (λ set. has_card set k) sets ≡ false → holders k sets ≡ 0
none_has k [] h = refl
none_has k (s ∷ sets) h =
    let p = neither (has_card s k) (list_any (λ set. has_card set k) sets) h in
    let out : bit (has_card s k) ≡ 0 = ap bit p.0 in
    omega (arith, out, none_has k sets p.1)

one_of : (a b : Bool) → (a || b) ≡ true → 1 ≤ bit a + bit b
one_of true b h = omega arith
one_of false true h = omega arith
one_of false false h = absurd (true≢false (sym h))

union_holds : (a b : List ℕ) (k : ℕ) → bit (has_card (union a b) k) ≤ bit (has_card a k) + bit (has_card b k)
union_holds a b k = elim (has_card (union a b) k) as (λ t. has_card (union a b) k ≡ t → bit t ≤ bit (has_card a k) + bit (has_card b k)) [
  | true ↦ λ e.
      let inside : k < 52 = has_card-bound 0 (union a b) k (IsRising-cards_where _) e in
      one_of (has_card a k) (has_card b k) (sym (has-cards_where (λ k. has_card a k || has_card b k) k inside) ∙ e)
  | false ↦ λ e. omega arith
] refl

-- the hands hold a card as often as before and as the sets that they are dealt, at most
hands_hold : (size number : ℕ) (hands sets : List (List ℕ)) (k : ℕ) → length sets ≡ length (hand_slots size number hands)
    → holders k (hands_after (hand_slots size number hands) sets number hands) ≤ holders k hands + holders k sets
hands_hold size number [] sets k e = omega arith
hands_hold size number (hand ∷ hands) sets k e = elim (size - length hand) as (λ n. length sets ≡ length (slot_of (Hand number) n ++ hand_slots size (number + 1) hands)
    → holders k (hands_after (slot_of (Hand number) n ++ hand_slots size (number + 1) hands) sets number (hand ∷ hands)) ≤ holders k (hand ∷ hands) + holders k sets) [
      | zero ↦ λ e.
          let none : dealt (hand_slots size (number + 1) hands) sets (Hand number) ≡ [] = dealt_absent (hand_slots size (number + 1) hands) sets (Hand number) (absent_below size (number + 1) hands number (omega arith)) in
          let one : bit (has_card (union hand []) k) ≤ bit (has_card hand k) + 0 = union_holds hand [] k in
          let ih : holders k (hands_after (hand_slots size (number + 1) hands) sets (number + 1) hands) ≤ holders k hands + holders k sets = hands_hold size (number + 1) hands sets k e in
          rw none (omega arith)
      | suc n ↦ λ e. more (λ others e. hands_hold size (number + 1) hands others k e) n sets e
    ] e
  where
    more : ((others : List (List ℕ)) → length others ≡ length (hand_slots size (number + 1) hands) → holders k (hands_after (hand_slots size (number + 1) hands) others (number + 1) hands) ≤ holders k hands + holders k others)
        → (n : ℕ) (sets : List (List ℕ)) → length sets ≡ suc (length (hand_slots size (number + 1) hands))
        → holders k (hands_after (slot_of (Hand number) (suc n) ++ hand_slots size (number + 1) hands) sets number (hand ∷ hands)) ≤ holders k (hand ∷ hands) + holders k sets
    more rest n [] e = absurd (omega arith)
    more rest n (set ∷ sets) e =
        let slot : Slot = record { receiver = Hand number; count = suc n } in
        let is : (number == number) ≡ true = grind arith in
        let skip : hands_after (slot ∷ hand_slots size (number + 1) hands) (set ∷ sets) (number + 1) hands ≡ hands_after (hand_slots size (number + 1) hands) sets (number + 1) hands =
        skip_slot slot (hand_slots size (number + 1) hands) set sets (number + 1) hands (λ i l. grind arith) in
        let ih = rest sets (omega arith) in
        let one = union_holds hand set k in
        rw (is, skip) (omega arith)

-- the board and the hands likewise
all_hold : (board size : ℕ) (hands sets : List (List ℕ)) (k : ℕ) → length sets ≡ length (slot_of Board board ++ hand_slots size 0 hands)
    → bit (has_card (dealt (slot_of Board board ++ hand_slots size 0 hands) sets Board) k) + holders k (hands_after (slot_of Board board ++ hand_slots size 0 hands) sets 0 hands) ≤ holders k hands + holders k sets
all_hold zero size hands sets k e =
    let none : dealt (hand_slots size 0 hands) sets Board ≡ [] = dealt_absent (hand_slots size 0 hands) sets Board (absent_board size 0 hands) in
    let ih = hands_hold size 0 hands sets k e in
    rw none (omega arith)
all_hold (suc n) size hands [] k e = absurd (omega arith)
all_hold (suc n) size hands (set ∷ sets) k e =
    let slot : Slot = record { receiver = Board; count = suc n } in
    let skip : hands_after (slot ∷ hand_slots size 0 hands) (set ∷ sets) 0 hands ≡ hands_after (hand_slots size 0 hands) sets 0 hands = skip_slot slot (hand_slots size 0 hands) set sets 0 hands (λ i l. refl) in
    let ih = hands_hold size 0 hands sets k (omega arith) in
    rw skip (omega arith)

choice_holds : (s : State) (sets : List (List ℕ)) (k : ℕ) → length sets ≡ length (slots s)
    → bit (has_card (dealt (next_slots s) sets Board) k) + holders k (hands_after (next_slots s) sets 0 s.hands) ≤ holders k s.hands + holders k sets
choice_holds s sets k e =
    rw (dealt_next s.game (slots s) sets Board, hands_next s.game (slots s) sets 0 s.hands) (all_hold (board_size s.game - length s.board) (own_size s.game) s.hands sets k e)

-- a card that may come is in no place
record Free (s : State) (k : ℕ) : Type 0 where
  board : bit (has_card s.board k) ≡ 0
  dead : bit (has_card s.dead k) ≡ 0
  hands : holders k s.hands ≡ 0

free_card : (s : State) (k : ℕ) → has_card (unseen s) k ≡ true → Free s k
free_card s k h =
    let inside : k < 52 = has_card-bound 0 (unseen s) k (IsRising-cards_where _) h in
    let free : (not (has_card s.board k) && not (has_card s.dead k) && not (list_any (λ hand. has_card hand k) s.hands)) ≡ true = sym (has-cards_where _ k inside) ∙ h in
    let two = and_parts (not (has_card s.board k) && not (has_card s.dead k)) (not (list_any (λ hand. has_card hand k) s.hands)) free in
    let one = and_parts (not (has_card s.board k)) (not (has_card s.dead k)) two.0 in
    record { board = ap bit (off (has_card s.board k) one.0); dead = ap bit (off (has_card s.dead k) one.1); hands = none_has k s.hands (off (list_any (λ hand. has_card hand k) s.hands) two.1) }

-- no card is in two places
pub known_apart : (s : State) (rest sets : List (List ℕ)) → all_apart (s.board ∷ s.dead ∷ (s.hands ++ rest)) ≡ true → all_empty rest ≡ true → HasMember (choices_of s) sets
    → all_apart ((after s sets).board ∷ s.dead ∷ ((after s sets).hands ++ rest)) ≡ true
known_apart s rest sets disjoint empty m =
    few-apart ((after s sets).board ∷ s.dead ∷ ((after s sets).hands ++ rest)) (λ k.
    let old : bit (has_card s.board k) + (bit (has_card s.dead k) + holders k (s.hands ++ rest)) ≤ 1 = apart-few (s.board ∷ s.dead ∷ (s.hands ++ rest)) k disjoint in
    let parts = holders-append k s.hands rest in
    let parts' = holders-append k (hands_after (next_slots s) sets 0 s.hands) rest in
    let none = empty_hold k rest empty in
    let board = union_holds s.board (dealt (next_slots s) sets Board) k in
    let hands = choice_holds s sets k (choice_length s sets m) in
    let fills = runout_fills (counts_of (next_slots s)) (unseen s) sets (IsRising-cards_where _) m in
    elim (has_card (unseen s) k) as (λ b. has_card (unseen s) k ≡ b → holders k ((after s sets).board ∷ s.dead ∷ ((after s sets).hands ++ rest)) ≤ 1) [
      | true ↦ λ e. let free = free_card s k e in omega (arith, free.board, free.dead, free.hands, apart-few sets k fills.apart)
      | false ↦ λ e. omega (arith, may_hold (unseen s) sets k fills.may_come e)
    ] refl)

-- ---- no set is too large

at_most : (a b : ℕ) → nat_le a b ≡ true → a ≤ b
at_most a b h = elim (cases_lt b a) [ inl l ↦ let f : nat_le a b ≡ false = grind arith in absurd (true≢false (sym h ∙ f)) | inr ge ↦ ge ]

pub all_front : {X : Type 0} (p : X → Bool) (xs ys : List X) → list_all p (xs ++ ys) ≡ true → list_all p xs ≡ true
all_front p [] ys h = refl
all_front p (x ∷ xs) ys h = let hs = and_parts (p x) (list_all p (xs ++ ys)) h in and_true (p x) (list_all p xs) hs.0 (all_front p xs ys hs.1)

all_back : {X : Type 0} (p : X → Bool) (xs ys : List X) → list_all p (xs ++ ys) ≡ true → list_all p ys ≡ true
all_back p [] ys h = h
all_back p (x ∷ xs) ys h = let hs = and_parts (p x) (list_all p (xs ++ ys)) h in all_back p xs ys hs.1

all_joined : {X : Type 0} (p : X → Bool) (xs ys : List X) → list_all p xs ≡ true → list_all p ys ≡ true → list_all p (xs ++ ys) ≡ true
all_joined p [] ys h k = k
all_joined p (x ∷ xs) ys h k = let hs = and_parts (p x) (list_all p xs) h in and_true (p x) (list_all p (xs ++ ys)) hs.0 (all_joined p xs ys hs.1 k)

hands_fit : (size : ℕ) (some : List Slot) (sets : List (List ℕ)) (number : ℕ) (hands : List (List ℕ))
    → ((i : ℕ) → i < length hands → length (union (slice_index_or hands i []) (dealt some sets (Hand (number + i)))) ≤ size) → list_all (λ hand. nat_le (length hand) size) (hands_after some sets number hands) ≡ true
hands_fit size some sets number [] h = refl
hands_fit size some sets number (hand ∷ hands) h =
    let none : number + 0 ≡ number = omega arith in
    let here : length (union hand (dealt some sets (Hand number))) ≤ size = subst (λ k. length (union hand (dealt some sets (Hand k))) ≤ size) none (h 0 (omega arith)) in
    let first : nat_le (length (union hand (dealt some sets (Hand number)))) size ≡ true = grind arith in
    and_true _ _ first (hands_fit size some sets (number + 1) hands (λ i l.
    let up : number + suc i ≡ (number + 1) + i = omega arith in
    subst (λ k. length (union (slice_index_or hands i []) (dealt some sets (Hand k))) ≤ size) up (h (suc i) (omega arith))))

pub known_fit : (s : State) (rest sets : List (List ℕ)) → IsKnown s → all_fit s.game s.board (s.hands ++ rest) ≡ true → HasMember (choices_of s) sets
    → all_fit s.game (after s sets).board ((after s sets).hands ++ rest) ≡ true
known_fit s rest sets known fits m =
    let size = own_size s.game in
    let p : List ℕ → Bool = λ hand. nat_le (length hand) size in
    let old = and_parts (nat_le (length s.board) (board_size s.game)) (list_all p (s.hands ++ rest)) fits in
    let front = all_front p s.hands rest old.1 in
    let grown = board_grows s sets known m in
    let gets_board = gets_within s.game Board (board_size s.game - length s.board) in
    let small = at_most (length s.board) (board_size s.game) old.0 in
    let fits_board : length (union s.board (dealt (next_slots s) sets Board)) ≤ board_size s.game = omega arith in
    let board : nat_le (length (union s.board (dealt (next_slots s) sets Board))) (board_size s.game) ≡ true = grind arith in
    and_true _ _ board (all_joined p (hands_after (next_slots s) sets 0 s.hands) rest
    (hands_fit size (next_slots s) sets 0 s.hands (λ i l.
    let z : 0 + i ≡ i = omega arith in
    let own = slice_index_or s.hands i [] in
    let more = hand_grows s sets i known m l in
    let few = gets_within s.game (Hand i) (size - length own) in
    let was : length own ≤ size = at_most (length own) size (list_all-index p s.hands i [] front l) in
    rw z (omega arith)))
    (all_back p s.hands rest old.1))

-- ---- the same of hands of which the first so many count

pub apart_after : (game : Game) (count : ℕ) (hands new sets : List (List ℕ)) (board dead board' : List ℕ) → all_apart (board ∷ dead ∷ hands) ≡ true → all_empty (drop count hands) ≡ true
    → (let s : State = record { game = game; hands = take count hands; board = board; dead = dead } in HasMember (choices_of s) sets → new ≡ hands_after (next_slots s) sets 0 s.hands → board' ≡ union board (dealt (next_slots s) sets Board)
    → all_apart (board' ∷ dead ∷ (new ++ drop count hands)) ≡ true)
apart_after game count hands new sets board dead board' disjoint empty m e b =
    let s : State = record { game = game; hands = take count hands; board = board; dead = dead } in
    subst (λ c. all_apart (c ∷ dead ∷ (new ++ drop count hands)) ≡ true) (sym b)
    (subst (λ hs. all_apart ((after s sets).board ∷ dead ∷ (hs ++ drop count hands)) ≡ true) (sym e)
    (known_apart s (drop count hands) sets (subst (λ hs. all_apart (board ∷ dead ∷ hs) ≡ true) (sym (take-append-drop count hands)) disjoint) empty m))

pub fit_after : (game : Game) (count : ℕ) (hands new sets : List (List ℕ)) (board dead board' : List ℕ) → all_fit game board hands ≡ true
    → (let s : State = record { game = game; hands = take count hands; board = board; dead = dead } in IsKnown s → HasMember (choices_of s) sets → new ≡ hands_after (next_slots s) sets 0 s.hands → board' ≡ union board (dealt (next_slots s) sets Board)
    → all_fit game board' (new ++ drop count hands) ≡ true)
fit_after game count hands new sets board dead board' fits known m e b =
    let s : State = record { game = game; hands = take count hands; board = board; dead = dead } in
    subst (λ c. all_fit game c (new ++ drop count hands) ≡ true) (sym b)
    (subst (λ hs. all_fit game (after s sets).board (hs ++ drop count hands) ≡ true) (sym e)
    (known_fit s (drop count hands) sets known (subst (λ hs. all_fit game board hs ≡ true) (sym (take-append-drop count hands)) fits) m))

-- as many hands as before come first
pub front_after : (some : List Slot) (count : ℕ) (hands new sets : List (List ℕ)) → count ≤ length hands → new ≡ hands_after some sets 0 (take count hands) → (take count (new ++ drop count hands) ≡ new) × (drop count (new ++ drop count hands) ≡ drop count hands)
front_after some count hands new sets l e =
    let long : length new ≡ count = ap length e ∙ length_after some sets 0 (take count hands) ∙ length-take-le count hands l in
    (ap (λ n. take n (new ++ drop count hands)) (sym long) ∙ take-append_seam new (drop count hands), ap (λ n. drop n (new ++ drop count hands)) (sym long) ∙ drop-append_seam new (drop count hands))
