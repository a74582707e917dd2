-- What is known after a street: which cards may come then, and who lacks what.
use Rattle.std.proofs.Common.{◌≡◌, ℕ, zero, suc, ◌+◌, ◌-◌, ◌<◌, ◌≤◌, List, [], ◌∷◌, ◌++◌, length, refl, sym, ap, ◌∙◌, arith, Bool, true, false, ◌||◌, ◌&&◌, ◌==◌, not, subst}
use Rattle.std.specs.Prelude.{slice_index_or}
use Rattle.std.specs.List.{list_any}
use Rattle.std.proofs.lemmas.List.{length-map}
use Rattle.card_sets.specs.Cards.{has_card, cards_where, union, minus, IsCardSet}
use Rattle.card_sets.specs.Bits.{cards_where_same, has-cards_where, IsCardSet-cards_where}
use Rattle.card_sets.specs.Rising.{IsRising-cards_where, rising-IsCardSet}
use Rattle.card_sets.specs.Games.{own_size, board_size}
use Rattle.card_sets.specs.State.{State}
use Rattle.card_sets.specs.declared.games.Game.{Game}
use Rattle.runout_ranges.specs.Runouts.{runouts, left_by, HasMember}
use Rattle.runout_ranges.specs.Slots.{slots, unseen, slot_of, hand_slots, counts_of, same_receiver, dealt}
use Rattle.runout_ranges.specs.Walks.{length-runout}
use Rattle.runout_ranges.specs.declared.shapes.Receiver.{Receiver}
use Rattle.runout_ranges.specs.declared.shapes.Receiver.TheVariants.{Board, Hand}
use Rattle.runout_ranges.specs.declared.shapes.Slot.{Slot}
use Rattle.runout_ranges.specs.declared.shapes.Shape.{Shape}
use Rattle.runout_ranges.specs.Shapes.{runouts_of, slots_of}
use Rattle.card_sets.proofs.CallerLemmas.{length-union}
use Rattle.runout_ranges.proofs.CallerLemmas.{minus_left, runout_fills}
use Rattle.showdown_tally.proofs.CallerLemmas.{runout_deals, dealt_cards, unseen_free, any-index}
use Rattle.street_walk.specs.Streets.{gets, next_of, next_slots, choices_of, hands_after, after, IsNextOf}
use Rattle.street_walk.specs.StreetSums.{IsKnown}
use Rattle.street_walk.proofs.Picks.{Alike, has_card_joined}
use Rattle.street_walk.proofs.PickedListing.{left_by_all}
use Rattle.street_walk.proofs.StreetParts.{rest_of}
use Rattle.street_walk.proofs.EmptySlots.{lacking, lacking_more}
use Rattle.street_walk.proofs.Receivers.{dealt_absent, absent_board, absent_below, dealt_next, lack, dealt_length, lack_next, lack_board, lack_hand}

-- ---- unions by their cards

pub union_same : (a b c d : List ℕ) → ((k : ℕ) → k < 52 → (has_card a k || has_card b k) ≡ (has_card c k || has_card d k)) → union a b ≡ union c d
union_same a b c d h = cards_where_same _ _ h

or_parts : (a b c : Bool) → ((a || b) || c) ≡ (a || (b || c))
or_parts true b c = refl
or_parts false b c = refl

-- two parts of cards added one after the other
pub union_twice : (a b c d : List ℕ) → Alike d (b ++ c) → union (union a b) c ≡ union a d
union_twice a b c d h = union_same (union a b) c a d (λ k l.
    ap (λ t. t || has_card c k) (has-cards_where (λ k. has_card a k || has_card b k) k l)
    ∙ or_parts (has_card a k) (has_card b k) (has_card c k) ∙ ap (λ t. has_card a k || t) (sym (has_card_joined b c k) ∙ sym (h k)))

-- ---- the cards that may come

left_where : (sets : List (List ℕ)) (cards : List ℕ) → IsCardSet cards → left_by_all cards sets ≡ cards_where (λ k. has_card cards k && not (list_any (λ set. has_card set k) sets))
left_where [] cards set = sym (cards_where_same (λ k. has_card cards k && true) (has_card cards) (λ k l. all (has_card cards k)) ∙ set)
  where
    all : (b : Bool) → (b && true) ≡ b
    all true = refl
    all false = refl
left_where (s ∷ sets) cards set =
    let one : left_by cards s ≡ minus cards s = sym (minus_left cards s set) in
    ap (λ l. left_by_all l sets) one
    ∙ left_where sets (minus cards s) (IsCardSet-cards_where _)
    ∙ cards_where_same _ _ (λ k l. ap (λ t. t && not (list_any (λ set. has_card set k) sets)) (has-cards_where (λ k. has_card cards k && not (has_card s k)) k l) ∙ both (has_card cards k) (has_card s k) (list_any (λ set. has_card set k) sets))
  where
    both : (a b c : Bool) → ((a && not b) && not c) ≡ (a && not (b || c))
    both true true c = refl
    both true false c = refl
    both false true c = refl
    both false false c = refl

-- later hands don't see the slot of an earlier one
pub skip_slot : (s : Slot) (some : List Slot) (set : List ℕ) (sets : List (List ℕ)) (number : ℕ) (hands : List (List ℕ)) → ((i : ℕ) → number ≤ i → same_receiver s.receiver (Hand i) ≡ false)
    → hands_after (s ∷ some) (set ∷ sets) number hands ≡ hands_after some sets number hands
skip_slot s some set sets number [] h = refl
skip_slot s some set sets number (hand ∷ hands) h =
    let f : same_receiver s.receiver (Hand number) ≡ false = h number (omega arith) in
    let rest = skip_slot s some set sets (number + 1) hands (λ i l. h i (omega arith)) in
    rw (f, rest) refl

-- the cards of the hands are those of before and those of the sets
any_after : (size number : ℕ) (hands sets : List (List ℕ)) (k : ℕ) → k < 52 → length sets ≡ length (hand_slots size number hands)
    → list_any (λ hand. has_card hand k) (hands_after (hand_slots size number hands) sets number hands) ≡ (list_any (λ hand. has_card hand k) hands || list_any (λ set. has_card set k) sets)
any_after size number [] [] k l e = refl
any_after size number [] (set ∷ sets) k l e = absurd (omega arith)
any_after size number (hand ∷ hands) sets k l e = elim (size - length hand) as (λ n. length sets ≡ length (slot_of (Hand number) n ++ hand_slots size (number + 1) hands)
    → list_any (λ hand. has_card hand k) (hands_after (slot_of (Hand number) n ++ hand_slots size (number + 1) hands) sets number (hand ∷ hands)) ≡ (list_any (λ hand. has_card hand k) (hand ∷ hands) || list_any (λ set. has_card set k) sets)) [
      | zero ↦ λ e.
          let none : dealt (hand_slots size (number + 1) hands) sets (Hand number) ≡ [] = dealt_absent (hand_slots size (number + 1) hands) sets (Hand number) (absent_below size (number + 1) hands number (omega arith)) in
          let ih = any_after size (number + 1) hands sets k l e in
          rw (none, ih) (ap (λ t. t || (list_any (λ hand. has_card hand k) hands || list_any (λ set. has_card set k) sets)) (has-cards_where (λ k. has_card hand k || false) k l) ∙ first (has_card hand k) (list_any (λ hand. has_card hand k) hands) (list_any (λ set. has_card set k) sets))
      | suc n ↦ λ e. more (λ others e. any_after size (number + 1) hands others k l e) n sets e
    ] e
  where
    first : (a b c : Bool) → ((a || false) || (b || c)) ≡ ((a || b) || c)
    first true b c = refl
    first false b c = refl

    second : (a b c d : Bool) → ((a || b) || (c || d)) ≡ ((a || c) || (b || d))
    second true b c d = refl
    second false true true d = refl
    second false true false d = refl
    second false false c d = refl

    more : ((others : List (List ℕ)) → length others ≡ length (hand_slots size (number + 1) hands) → list_any (λ hand. has_card hand k) (hands_after (hand_slots size (number + 1) hands) others (number + 1) hands) ≡ (list_any (λ hand. has_card hand k) hands || list_any (λ set. has_card set k) others))
        → (n : ℕ) (sets : List (List ℕ)) → length sets ≡ suc (length (hand_slots size (number + 1) hands))
        → list_any (λ hand. has_card hand k) (hands_after (slot_of (Hand number) (suc n) ++ hand_slots size (number + 1) hands) sets number (hand ∷ hands)) ≡ (list_any (λ hand. has_card hand k) (hand ∷ hands) || list_any (λ set. has_card set k) sets)
    more rest n [] e = absurd (omega arith)
    more rest n (set ∷ sets) e =
        let slot : Slot = record { receiver = Hand number; count = suc n } in
        let is : (number == number) ≡ true = grind arith in
        let skip : hands_after (slot ∷ hand_slots size (number + 1) hands) (set ∷ sets) (number + 1) hands ≡ hands_after (hand_slots size (number + 1) hands) sets (number + 1) hands =
        skip_slot slot (hand_slots size (number + 1) hands) set sets (number + 1) hands (λ i l. grind arith) in
        let ih = rest sets (omega arith) in
        let H : Bool = list_any (λ hand. has_card hand k) hands in
        let C : Bool = list_any (λ set. has_card set k) sets in
        rw (is, skip, ih) (ap (λ t. t || (H || C)) (has-cards_where (λ k. has_card hand k || has_card set k) k l) ∙ second (has_card hand k) (has_card set k) H C)

pub hands_next : (game : Game) (some : List Slot) (sets : List (List ℕ)) (number : ℕ) (hands : List (List ℕ)) → hands_after (next_of game some) sets number hands ≡ hands_after some sets number hands
hands_next game some sets number [] = refl
hands_next game some sets number (hand ∷ hands) = rw (dealt_next game some sets (Hand number), hands_next game some sets (number + 1) hands) refl

-- the cards of a choice are the board's and the hands'
cards_after : (board size : ℕ) (hands sets : List (List ℕ)) (k : ℕ) → k < 52 → length sets ≡ length (slot_of Board board ++ hand_slots size 0 hands)
    → (x : Bool) × (list_any (λ hand. has_card hand k) (hands_after (slot_of Board board ++ hand_slots size 0 hands) sets 0 hands) ≡ (list_any (λ hand. has_card hand k) hands || x))
    × ((has_card (dealt (slot_of Board board ++ hand_slots size 0 hands) sets Board) k || x) ≡ list_any (λ set. has_card set k) sets)
cards_after zero size hands sets k l e = (
  list_any (λ set. has_card set k) sets,
  any_after size 0 hands sets k l e,
  ap (λ c. has_card c k || list_any (λ set. has_card set k) sets) (dealt_absent (hand_slots size 0 hands) sets Board (absent_board size 0 hands)),
)
cards_after (suc n) size hands [] k l e = absurd (omega arith)
cards_after (suc n) size hands (set ∷ sets) k l e = (
  list_any (λ set. has_card set k) sets,
  ap (λ h. list_any (λ hand. has_card hand k) h) (skip_slot (record { receiver = Board; count = suc n }) (hand_slots size 0 hands) set sets 0 hands (λ i l. refl)) ∙ any_after size 0 hands sets k l (omega arith),
  refl,
)

-- what may come after the street is what the street's choice leaves
pub unseen_after : (s : State) (sets : List (List ℕ)) → length sets ≡ length (slots s) → unseen (after s sets) ≡ left_by_all (unseen s) sets
unseen_after s sets e =
    cards_where_same _ _ (λ k l.
    let c = cards_after (board_size s.game - length s.board) (own_size s.game) s.hands sets k l e in
    let dealt_board = ap (λ c. has_card c k) (dealt_next s.game (slots s) sets Board) in
    let board = has-cards_where (λ k. has_card s.board k || has_card (dealt (next_slots s) sets Board) k) k l ∙ ap (λ t. has_card s.board k || t) dealt_board in
    let hands = ap (λ h. list_any (λ hand. has_card hand k) h) (hands_next s.game (slots s) sets 0 s.hands) ∙ c.1 in
    let now = has-cards_where (λ c. not (has_card s.board c) && not (has_card s.dead c) && not (list_any (λ hand. has_card hand c) s.hands)) k l in
    rw (board, hands, now, ← c.2) (parts (has_card s.board k) (has_card (dealt (slots s) sets Board) k) (has_card s.dead k) (list_any (λ hand. has_card hand k) s.hands) c.0))
    ∙ sym (left_where sets (unseen s) (IsCardSet-cards_where _))
  where
    parts : (b c d r a : Bool) → ((not (b || c) && not d) && not (r || a)) ≡ (((not b && not d) && not r) && not (c || a))
    parts true c d r a = refl
    parts false true true r a = refl
    parts false true false true a = refl
    parts false true false false a = refl
    parts false false true r a = refl
    parts false false false true a = refl
    parts false false false false a = refl

-- ---- who lacks what after the street

hands_lack : (game : Game) (size number : ℕ) (some : List Slot) (sets hands : List (List ℕ))
    → ((i : ℕ) → i < length hands → length (union (slice_index_or hands i []) (dealt some sets (Hand (number + i)))) ≡ length (slice_index_or hands i []) + gets game (Hand (number + i)) (size - length (slice_index_or hands i [])))
    → hand_slots size number (hands_after some sets number hands) ≡ lacking (rest_of game (hand_slots size number hands))
hands_lack game size number some sets [] h = refl
hands_lack game size number some sets (hand ∷ hands) h =
    let none : number + 0 ≡ number = omega arith in
    let here : length (union hand (dealt some sets (Hand number))) ≡ length hand + gets game (Hand number) (size - length hand) =
    subst (λ k. length (union hand (dealt some sets (Hand k))) ≡ length hand + gets game (Hand k) (size - length hand)) none (h 0 (omega arith)) in
    let less : size - length (union hand (dealt some sets (Hand number))) ≡ (size - length hand) - gets game (Hand number) (size - length hand) = omega arith in
    let rest = hands_lack game size (number + 1) some sets hands (λ i l.
    let up : number + suc i ≡ (number + 1) + i = omega arith in
    subst (λ k. length (union (slice_index_or hands i []) (dealt some sets (Hand k))) ≡ length (slice_index_or hands i []) + gets game (Hand k) (size - length (slice_index_or hands i []))) up (h (suc i) (omega arith))) in
    rw (less, rest) (lacking_more game (Hand number) (size - length hand) (hand_slots size (number + 1) hands))

-- what a choice gives a receiver is as much as it gets, and of the cards that may come
pub record Given (s : State) (sets : List (List ℕ)) (who : Receiver) : Type 0 where
  pub many : length (dealt (next_slots s) sets who) ≡ gets s.game who (lack (slots s) who)
  pub set : IsCardSet (dealt (next_slots s) sets who)
  pub within : (k : ℕ) → has_card (dealt (next_slots s) sets who) k ≡ true → has_card (unseen s) k ≡ true

pub given : (s : State) (sets : List (List ℕ)) (who : Receiver) → HasMember (choices_of s) sets → Given s sets who
given s sets who m =
    let fills = runout_fills (counts_of (next_slots s)) (unseen s) sets (IsRising-cards_where _) m in
    let cards = dealt_cards (next_slots s) (unseen s) sets who (runout_deals (unseen s) (counts_of (next_slots s)) sets (IsRising-cards_where _) m) in
    record {
      many = dealt_length (next_slots s) sets who fills.sizes ∙ lack_next s.game (slots s) who;
      set = rising-IsCardSet _ cards.0;
      within = cards.1;
    }

-- how many cards the board has after the street, and each hand
pub board_grows : (s : State) (sets : List (List ℕ)) → IsKnown s → HasMember (choices_of s) sets
    → length (union s.board (dealt (next_slots s) sets Board)) ≡ length s.board + gets s.game Board (board_size s.game - length s.board)
board_grows s sets known m =
    let g = given s sets Board m in
    length-union s.board (dealt (next_slots s) sets Board) known.board g.set (λ k x y. (unseen_free s k (g.within k y)).0 x)
    ∙ ap (λ n. length s.board + n) (g.many ∙ ap (λ n. gets s.game Board n) (lack_board (board_size s.game - length s.board) (own_size s.game) s.hands))

pub hand_grows : (s : State) (sets : List (List ℕ)) (i : ℕ) → IsKnown s → HasMember (choices_of s) sets → i < length s.hands
    → length (union (slice_index_or s.hands i []) (dealt (next_slots s) sets (Hand i))) ≡ length (slice_index_or s.hands i []) + gets s.game (Hand i) (own_size s.game - length (slice_index_or s.hands i []))
hand_grows s sets i known m l =
    let h = given s sets (Hand i) m in
    let own = slice_index_or s.hands i [] in
    length-union own (dealt (next_slots s) sets (Hand i)) (known.hands i l) h.set (λ k x y. (unseen_free s k (h.within k y)).1 (any-index k s.hands i x))
    ∙ ap (λ n. length own + n) (h.many ∙ ap (λ n. gets s.game (Hand i) n) (lack_hand (board_size s.game - length s.board) (own_size s.game) s.hands i [] l))

pub slots_after : (s : State) (sets : List (List ℕ)) → IsKnown s → HasMember (choices_of s) sets → slots (after s sets) ≡ lacking (rest_of s.game (slots s))
slots_after s sets known m =
    let size = own_size s.game in
    let lacks = board_size s.game - length s.board in
    let board = board_grows s sets known m in
    let less : board_size s.game - length (union s.board (dealt (next_slots s) sets Board)) ≡ lacks - gets s.game Board lacks = omega arith in
    let hands = hands_lack s.game size 0 (next_slots s) sets s.hands (λ i l.
    let z : 0 + i ≡ i = omega arith in
    rw z (hand_grows s sets i known m l)) in
    rw (less, hands) (lacking_more s.game Board lacks (hand_slots size 0 s.hands))

-- a choice has a set for each slot
pub choice_length : (s : State) (now : List (List ℕ)) → HasMember (choices_of s) now → length now ≡ length (slots s)
choice_length s now m =
    length-runout (counts_of (next_slots s)) (unseen s) now m ∙ length-map (next_slots s) (λ t. t.count) ∙ length-map (slots s) (λ t. record { receiver = t.receiver; count = gets s.game t.receiver t.count })

-- the choices of a street's shape are those of its state
pub of_next : (P : List (List (List ℕ)) → Type 0) (state : State) (shape : Shape) → IsNextOf state shape → P (runouts_of shape) → P (choices_of state)
of_next P state shape is p = subst P (ap (λ cards. runouts cards (counts_of (slots_of shape))) is.cards ∙ ap (λ some. runouts (unseen state) (counts_of some)) is.slots) p

-- a runout has a set for each slot of its shape
pub step_length : (shape : Shape) (sets : List (List ℕ)) → HasMember (runouts_of shape) sets → length sets ≡ length (slots_of shape)
step_length shape sets m = length-runout (counts_of (slots_of shape)) shape.unseen sets m ∙ length-map (slots_of shape) (λ s. s.count)

pub of_choices : (P : List (List (List ℕ)) → Type 0) (state : State) (shape : Shape) → IsNextOf state shape → P (choices_of state) → P (runouts_of shape)
of_choices P state shape is p = subst P (sym (ap (λ cards. runouts cards (counts_of (slots_of shape))) is.cards ∙ ap (λ some. runouts (unseen state) (counts_of some)) is.slots)) p
