-- After a runout each hand and the board are full, and no hand shares a card with the board.
use Rattle.std.proofs.Common.{◌≡◌, ℕ, zero, suc, ◌+◌, ◌-◌, ◌<◌, ◌≤◌, ◌==◌, ◌&&◌, ◌||◌, not, Bool, true, false, refl, sym, ap, ◌∙◌, inl, inr, arith, List, [], ◌∷◌, ◌++◌, length}
use Rattle.std.specs.Prelude.{slice_index_or, take, nat_le}
use Rattle.std.specs.List.{list_any, list_all}
use Rattle.std.proofs.lemmas.Bool.{cases_eq, cases_lt, and_parts}
use Rattle.std.proofs.lemmas.List.{get_or-take, length-take}
use mathlib.Core.Bool.{true≢false}
use Rattle.card_sets.specs.Cards.{has_card, IsCardSet}
use Rattle.card_sets.specs.Bits.{has-cards_where}
use Rattle.card_sets.specs.Rising.{IsRising-cards_where, rising-IsCardSet}
use Rattle.card_sets.specs.Disjoint.{apart, all_apart}
use Rattle.card_sets.specs.Games.{own_size, board_size, all_fit}
use Rattle.card_sets.specs.State.{State}
use Rattle.card_sets.specs.declared.games.Game.{Game}
use Rattle.runout_ranges.specs.Runouts.{left_by, HasMember}
use Rattle.runout_ranges.specs.Slots.{slot_of, hand_slots, counts_of, dealt, slots, unseen}
use Rattle.runout_ranges.specs.declared.shapes.Receiver.TheVariants.{Board, Hand}
use Rattle.showdown_tally.specs.Showdown.{own_after, board_after}
use Rattle.card_sets.proofs.CallerLemmas.{Apart, Apart-sym, Apart-apart, apart-Apart, Apart-union, length-union, has_card-bound}
use Rattle.showdown_tally.specs.Laws.{IsFull}
use Rattle.showdown_tally.specs.Tallies.{runouts_after}
use Rattle.showdown_tally.proofs.DealtCards.{Deals, runout_deals, dealt_cards, filtered}

no_board : (size number : ℕ) (hands : List (List ℕ)) (sets : List (List ℕ)) → dealt (hand_slots size number hands) sets Board ≡ []
no_board size number [] sets = refl
no_board size number (hand ∷ hands) sets = one (λ others. no_board size (number + 1) hands others) (size - length hand) sets
  where
    one : ((others : List (List ℕ)) → dealt (hand_slots size (number + 1) hands) others Board ≡ []) → (n : ℕ) (others : List (List ℕ)) → dealt (slot_of (Hand number) n ++ hand_slots size (number + 1) hands) others Board ≡ []
    one rest zero others = rest others
    one rest (suc n) [] = refl
    one rest (suc n) (set ∷ others) = rest others

-- slots of later hands are none of an earlier one
pub no_earlier : (size number : ℕ) (hands : List (List ℕ)) (sets : List (List ℕ)) (i : ℕ) → i < number → dealt (hand_slots size number hands) sets (Hand i) ≡ []
no_earlier size number [] sets i l = refl
no_earlier size number (hand ∷ hands) sets i l =
    let other : (number == i) ≡ false = grind arith in
    one other (λ others. no_earlier size (number + 1) hands others i (omega arith)) (size - length hand) sets
  where
    one : (number == i) ≡ false → ((others : List (List ℕ)) → dealt (hand_slots size (number + 1) hands) others (Hand i) ≡ []) → (n : ℕ) (others : List (List ℕ)) → dealt (slot_of (Hand number) n ++ hand_slots size (number + 1) hands) others (Hand i) ≡ []
    one f rest zero others = rest others
    one f rest (suc n) [] = refl
    one f rest (suc n) (set ∷ others) = rw f (rest others)

-- a hand is dealt what it lacks
hand_length : (size number : ℕ) (hands : List (List ℕ)) (cards : List ℕ) (sets : List (List ℕ)) (i : ℕ) → number ≤ i → i < number + length hands
    → Deals cards (counts_of (hand_slots size number hands)) sets → length (dealt (hand_slots size number hands) sets (Hand i)) ≡ size - length (slice_index_or hands (i - number) [])
hand_length size number [] cards sets i lo hi d = absurd (omega arith)
hand_length size number (hand ∷ hands) cards sets i lo hi d = elim (size - length hand) as (λ n. size - length hand ≡ n → Deals cards (counts_of (slot_of (Hand number) n ++ hand_slots size (number + 1) hands)) sets
    → length (dealt (slot_of (Hand number) n ++ hand_slots size (number + 1) hands) sets (Hand i)) ≡ size - length (slice_index_or (hand ∷ hands) (i - number) [])) [
      | zero ↦ λ e d. elim (cases_eq number i) [
        | inl same ↦
            let here : i - number ≡ 0 = omega arith in
            let none : dealt (hand_slots size (number + 1) hands) sets (Hand i) ≡ [] = no_earlier size (number + 1) hands sets i (omega arith) in
            rw (here, none) (sym e)
        | inr ne ↦
            let there : i - number ≡ suc (i - (number + 1)) = omega arith in
            rw there (hand_length size (number + 1) hands cards sets i (omega arith) (omega arith) d)
      ]
      | suc m ↦ λ e d. given (λ later left others d. hand_length size (number + 1) hands left others i (omega arith) (omega arith) d) m e sets d
    ] refl d
  where
    given : (number < i → (left : List ℕ) (others : List (List ℕ)) → Deals left (counts_of (hand_slots size (number + 1) hands)) others → length (dealt (hand_slots size (number + 1) hands) others (Hand i)) ≡ size - length (slice_index_or hands (i - (number + 1)) []))
        → (m : ℕ) → size - length hand ≡ suc m → (others : List (List ℕ)) → Deals cards (counts_of (slot_of (Hand number) (suc m) ++ hand_slots size (number + 1) hands)) others
        → length (dealt (slot_of (Hand number) (suc m) ++ hand_slots size (number + 1) hands) others (Hand i)) ≡ size - length (slice_index_or (hand ∷ hands) (i - number) [])
    given rest m e [] d = absurd d
    given rest m e (set ∷ others) d = elim (cases_eq number i) [
      | inl same ↦
          let t : (number == i) ≡ true = grind arith in
          let here : i - number ≡ 0 = omega arith in
          rw (t, here) (d.0.0 ∙ sym e)
      | inr ne ↦
          let f : (number == i) ≡ false = grind arith in
          let there : i - number ≡ suc (i - (number + 1)) = omega arith in
          rw (f, there) (rest (omega arith) (left_by cards set) others d.1)
    ]

-- what the board and a hand are dealt: as many cards as they lack, and no card to both
dealt_board : (board_lacks size : ℕ) (hands : List (List ℕ)) (cards : List ℕ) (sets : List (List ℕ)) → Deals cards (counts_of (slot_of Board board_lacks ++ hand_slots size 0 hands)) sets
    → length (dealt (slot_of Board board_lacks ++ hand_slots size 0 hands) sets Board) ≡ board_lacks
dealt_board zero size hands cards sets d = ap length (no_board size 0 hands sets)
dealt_board (suc n) size hands cards [] d = absurd d
dealt_board (suc n) size hands cards (set ∷ sets) d = d.0.0

dealt_hand : (board_lacks size : ℕ) (hands : List (List ℕ)) (cards : List ℕ) (sets : List (List ℕ)) (i : ℕ) → i < length hands → Deals cards (counts_of (slot_of Board board_lacks ++ hand_slots size 0 hands)) sets
    → length (dealt (slot_of Board board_lacks ++ hand_slots size 0 hands) sets (Hand i)) ≡ size - length (slice_index_or hands i [])
dealt_hand zero size hands cards sets i l d = hand_length size 0 hands cards sets i (omega arith) (omega arith) d ∙ ap (λ k. size - length (slice_index_or hands k [])) (omega arith)
dealt_hand (suc n) size hands cards [] i l d = absurd d
dealt_hand (suc n) size hands cards (set ∷ sets) i l d = hand_length size 0 hands (left_by cards set) sets i (omega arith) (omega arith) d.1 ∙ ap (λ k. size - length (slice_index_or hands k [])) (omega arith)

not_in : (b : Bool) → not b ≡ true → b ≡ true → ⊥
not_in true h e = true≢false (sym h)
not_in false h e = true≢false (sym e)

dealt_apart : (board_lacks size : ℕ) (hands : List (List ℕ)) (cards : List ℕ) (sets : List (List ℕ)) (i : ℕ) → Deals cards (counts_of (slot_of Board board_lacks ++ hand_slots size 0 hands)) sets
    → Apart (dealt (slot_of Board board_lacks ++ hand_slots size 0 hands) sets (Hand i)) (dealt (slot_of Board board_lacks ++ hand_slots size 0 hands) sets Board)
dealt_apart zero size hands cards sets i d k x y = true≢false (sym (ap (λ s. has_card s k) (sym (no_board size 0 hands sets)) ∙ y))
dealt_apart (suc n) size hands cards [] i d k x y = absurd d
dealt_apart (suc n) size hands cards (set ∷ sets) i d k x y =
    let inner = dealt_cards (hand_slots size 0 hands) (left_by cards set) sets (Hand i) d.1 in
    not_in (has_card set k) (filtered (λ c. not (has_card set c)) cards k (inner.1 k x)).1 y

abbrev pub hand_of : State → ℕ → List ℕ
hand_of st i = slice_index_or st.hands i []

-- what the type of known cards keeps, of a state
pub record Sound (st : State) : Type 0 where
  pub board_fits : length st.board ≤ board_size st.game
  pub hand_fits : (i : ℕ) → i < length st.hands → length (hand_of st i) ≤ own_size st.game
  pub apart : (i : ℕ) → i < length st.hands → Apart (hand_of st i) st.board

pub list_all-index : {X : Type 0} (p : X → Bool) (xs : List X) (i : ℕ) (d : X) → list_all p xs ≡ true → i < length xs → p (slice_index_or xs i d) ≡ true
list_all-index p [] i d h l = absurd (omega arith)
list_all-index p (x ∷ xs) zero d h l = (and_parts (p x) (list_all p xs) h).0
list_all-index p (x ∷ xs) (suc i) d h l = list_all-index p xs i d (and_parts (p x) (list_all p xs) h).1 (omega arith)

below : (a b : ℕ) → nat_le a b ≡ true → a ≤ b
below a b h = elim (cases_lt b a) [ inl l ↦ let f : nat_le a b ≡ false = grind arith in absurd (true≢false (sym h ∙ f)) | inr ge ↦ ge ]

pub known_sound : (game : Game) (count : ℕ) (hands : List (List ℕ)) (board dead : List ℕ) → all_apart (board ∷ dead ∷ hands) ≡ true → all_fit game board hands ≡ true
    → Sound (record { game = game; hands = take count hands; board = board; dead = dead })
known_sound game count hands board dead disjoint fits =
    let size = and_parts (nat_le (length board) (board_size game)) (list_all (λ hand. nat_le (length hand) (own_size game)) hands) fits in
    let first = and_parts (list_all (apart board) (dead ∷ hands)) (all_apart (dead ∷ hands)) disjoint in
    let hands_apart = and_parts (apart board dead) (list_all (apart board) hands) first.0 in
    record {
      board_fits = below (length board) (board_size game) size.0;
      hand_fits = λ i l.
          let inside : (i < count) × (i < length hands) = (omega (arith, length-take count hands), omega (arith, length-take count hands)) in
          rw (get_or-take count hands i [] inside.0) (below _ _ (list_all-index (λ hand. nat_le (length hand) (own_size game)) hands i [] size.1 inside.1));
      apart = λ i l.
          let inside : (i < count) × (i < length hands) = (omega (arith, length-take count hands), omega (arith, length-take count hands)) in
          rw (get_or-take count hands i [] inside.0) (Apart-sym board (slice_index_or hands i []) (Apart-apart board (slice_index_or hands i []) (list_all-index (apart board) hands i [] hands_apart.1 inside.1)));
    }

-- an unseen card is on no board and in no hand
pub unseen_free : (st : State) (k : ℕ) → has_card (unseen st) k ≡ true → (has_card st.board k ≡ true → ⊥) × (list_any (λ hand. has_card hand k) st.hands ≡ true → ⊥)
unseen_free st k h =
    let inside : k < 52 = has_card-bound 0 (unseen st) k (IsRising-cards_where _) h in
    let free : (not (has_card st.board k) && not (has_card st.dead k) && not (list_any (λ hand. has_card hand k) st.hands)) ≡ true = sym (has-cards_where _ k inside) ∙ h in
    let two = and_parts (not (has_card st.board k) && not (has_card st.dead k)) (not (list_any (λ hand. has_card hand k) st.hands)) free in
    let one = and_parts (not (has_card st.board k)) (not (has_card st.dead k)) two.0 in
    (not_in (has_card st.board k) one.0, not_in (list_any (λ hand. has_card hand k) st.hands) two.1)

pub any-index : (k : ℕ) (hands : List (List ℕ)) (i : ℕ) → has_card (slice_index_or hands i []) k ≡ true → list_any (λ hand. has_card hand k) hands ≡ true
any-index k [] i h = absurd (true≢false (sym h))
any-index k (hand ∷ hands) zero h = rw h refl
any-index k (hand ∷ hands) (suc i) h = later (has_card hand k) _ (any-index k hands i h)
  where
    later : (x y : Bool) → y ≡ true → (x || y) ≡ true
    later true y e = refl
    later false y e = e

pub full_own : (st : State) (runout : List (List ℕ)) (i : ℕ) → Sound st → Deals (unseen st) (counts_of (slots st)) runout → i < length st.hands → IsCardSet (hand_of st i) → length (own_after st runout i) ≡ own_size st.game
full_own st runout i sound d l set =
    let cards = dealt_cards (slots st) (unseen st) runout (Hand i) d in
    let free : Apart (hand_of st i) (dealt (slots st) runout (Hand i)) = (λ k x y. (unseen_free st k (cards.1 k y)).1 (any-index k st.hands i x)) in
    let fits : length (hand_of st i) ≤ own_size st.game = sound.hand_fits i l in
    let lacks : length (dealt (slots st) runout (Hand i)) ≡ own_size st.game - length (hand_of st i) = dealt_hand (board_size st.game - length st.board) (own_size st.game) st.hands (unseen st) runout i l d in
    omega (arith, length-union (hand_of st i) (dealt (slots st) runout (Hand i)) set (rising-IsCardSet _ cards.0) free)

pub full_board : (st : State) (runout : List (List ℕ)) → Sound st → Deals (unseen st) (counts_of (slots st)) runout → IsCardSet st.board → length (board_after st runout) ≡ board_size st.game
full_board st runout sound d set =
    let cards = dealt_cards (slots st) (unseen st) runout Board d in
    let free : Apart st.board (dealt (slots st) runout Board) = (λ k x y. (unseen_free st k (cards.1 k y)).0 x) in
    let fits : length st.board ≤ board_size st.game = sound.board_fits in
    let lacks : length (dealt (slots st) runout Board) ≡ board_size st.game - length st.board = dealt_board (board_size st.game - length st.board) (own_size st.game) st.hands (unseen st) runout d in
    omega (arith, length-union st.board (dealt (slots st) runout Board) set (rising-IsCardSet _ cards.0) free)

pub full_apart : (st : State) (runout : List (List ℕ)) (i : ℕ) → Sound st → Deals (unseen st) (counts_of (slots st)) runout → i < length st.hands → apart (own_after st runout i) (board_after st runout) ≡ true
full_apart st runout i sound d l =
    let own = dealt_cards (slots st) (unseen st) runout (Hand i) d in
    let board = dealt_cards (slots st) (unseen st) runout Board d in
    let to_board : Apart (hand_of st i) (board_after st runout) =
    Apart-sym (board_after st runout) (hand_of st i) (Apart-union st.board (dealt (slots st) runout Board) (hand_of st i)
    (Apart-sym (hand_of st i) st.board (sound.apart i l)) (λ k x y. (unseen_free st k (board.1 k x)).1 (any-index k st.hands i y))) in
    let from_board : Apart (dealt (slots st) runout (Hand i)) (board_after st runout) =
    Apart-sym (board_after st runout) (dealt (slots st) runout (Hand i)) (Apart-union st.board (dealt (slots st) runout Board) (dealt (slots st) runout (Hand i))
    (λ k x y. (unseen_free st k (own.1 k y)).0 x)
    (Apart-sym (dealt (slots st) runout (Hand i)) (dealt (slots st) runout Board) (dealt_apart (board_size st.game - length st.board) (own_size st.game) st.hands (unseen st) runout i d))) in
    apart-Apart (own_after st runout i) (board_after st runout) (Apart-union (hand_of st i) (dealt (slots st) runout (Hand i)) (board_after st runout) to_board from_board)

-- a hand and the board after a runout have no card missing
pub hand_IsFull : (game : Game) (count : ℕ) (hands : List (List ℕ)) (board dead : List ℕ) (runout : List (List ℕ)) (i : ℕ) → all_apart (board ∷ dead ∷ hands) ≡ true → all_fit game board hands ≡ true
    → (let st : State = record { game = game; hands = take count hands; board = board; dead = dead } in HasMember (runouts_after st) runout → i < length st.hands → IsCardSet (hand_of st i) → IsCardSet board → IsFull game (own_after st runout i) (board_after st runout))
hand_IsFull game count hands board dead runout i disjoint fits member l own set =
    let st : State = record { game = game; hands = take count hands; board = board; dead = dead } in
    let deals : Deals (unseen st) (counts_of (slots st)) runout = runout_deals (unseen st) (counts_of (slots st)) runout (IsRising-cards_where _) member in
    let sound : Sound st = known_sound game count hands board dead disjoint fits in
    record {
      own_cards = rising-IsCardSet _ (IsRising-cards_where _);
      board_cards = rising-IsCardSet _ (IsRising-cards_where _);
      own_size = full_own st runout i sound deals l own;
      board_size = full_board st runout sound deals set;
      apart = full_apart st runout i sound deals l;
    }
