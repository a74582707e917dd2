-- Where a runout ends that is dealt street by street.
use Rattle.std.proofs.Common.{◌≡◌, ℕ, zero, suc, ◌+◌, ◌-◌, ◌<◌, ◌≤◌, List, [], ◌∷◌, ◌++◌, length, refl, sym, ap, ◌∙◌, inl, inr, arith, false, ◌||◌, Option}
use Rattle.std.specs.Prelude.{slice_index_or}
use Rattle.std.proofs.lemmas.Bool.{cases_lt}
use Rattle.std.proofs.lemmas.List.{length-map}
use Rattle.card_sets.specs.Cards.{has_card, union}
use Rattle.card_sets.specs.Games.{own_size, board_size}
use Rattle.card_sets.specs.State.{State}
use Rattle.card_sets.specs.declared.games.Side.{Side}
use Rattle.runout_ranges.specs.Slots.{slots, slot_of, hand_slots, dealt}
use Rattle.runout_ranges.specs.declared.shapes.Receiver.{Receiver}
use Rattle.runout_ranges.specs.declared.shapes.Receiver.TheVariants.{Board, Hand}
use Rattle.runout_ranges.specs.declared.shapes.Slot.{Slot}
use Rattle.showdown_tally.specs.Showdown.{Showdown, best, own_after, board_after, value_after, winners, winners_of, eligible_in}
use Rattle.street_walk.specs.Streets.{gets, next_slots, hands_after, after}
use Rattle.street_walk.specs.StreetSums.{deal_after}
use Rattle.street_walk.proofs.Picks.{Alike, AllAlike, joined}
use Rattle.street_walk.proofs.StreetParts.{rest_of}
use Rattle.street_walk.proofs.EmptySlots.{lacking, padded, length_padded}
use Rattle.street_walk.proofs.Receivers.{has_slot, dealt_padded, dealt_absent, absent_above, distinct_all, distinct_rest, dealt_next, dealt_rest, dealt_joined, dealt_alike}
use Rattle.street_walk.proofs.AfterStreet.{union_same, union_twice}
use Rattle.street_walk.specs.Streets.{at_end}

-- ---- where a runout ends

pub index_after : (some : List Slot) (sets : List (List ℕ)) (number : ℕ) (hands : List (List ℕ)) (i : ℕ) → i < length hands
    → slice_index_or (hands_after some sets number hands) i [] ≡ union (slice_index_or hands i []) (dealt some sets (Hand (number + i)))
index_after some sets number [] i l = absurd (omega arith)
index_after some sets number (hand ∷ hands) zero l = let none : number + 0 ≡ number = omega arith in rw none refl
index_after some sets number (hand ∷ hands) (suc i) l = let up : number + suc i ≡ (number + 1) + i = omega arith in rw up (index_after some sets (number + 1) hands i (omega arith))

index_beyond : (xs : List (List ℕ)) (i : ℕ) → length xs ≤ i → slice_index_or xs i [] ≡ []
index_beyond [] i l = refl
index_beyond (x ∷ xs) zero l = absurd (omega arith)
index_beyond (x ∷ xs) (suc i) l = index_beyond xs i (omega arith)

pub length_after : (some : List Slot) (sets : List (List ℕ)) (number : ℕ) (hands : List (List ℕ)) → length (hands_after some sets number hands) ≡ length hands
length_after some sets number [] = refl
length_after some sets number (hand ∷ hands) = ap suc (length_after some sets (number + 1) hands)

absent_hand : (board size : ℕ) (hands : List (List ℕ)) (i : ℕ) → length hands ≤ i → has_slot (Hand i) (slot_of Board board ++ hand_slots size 0 hands) ≡ false
absent_hand zero size hands i l = absent_above size 0 hands i (omega arith)
absent_hand (suc n) size hands i l = absent_above size 0 hands i (omega arith)

-- a runout of the street's choice and of what comes later
abbrev pub whole_runout : State → List (List ℕ) → List (List ℕ) → List (List ℕ)
whole_runout s now later = joined now (padded (rest_of s.game (slots s)) later)

later_dealt : (s : State) (now later : List (List ℕ)) (who : Receiver) → slots (after s now) ≡ lacking (rest_of s.game (slots s)) → dealt (slots (after s now)) later who ≡ dealt (slots s) (padded (rest_of s.game (slots s)) later) who
later_dealt s now later who e =
    ap (λ some. dealt some later who) e
    ∙ sym (dealt_padded (rest_of s.game (slots s)) later who (distinct_rest s.game (slots s) (distinct_all (board_size s.game - length s.board) (own_size s.game) s.hands)))
    ∙ dealt_rest s.game (slots s) (padded (rest_of s.game (slots s)) later) who

both_dealt : (s : State) (now later : List (List ℕ)) (who : Receiver) → length now ≡ length (slots s)
    → Alike (dealt (slots s) (whole_runout s now later) who) (dealt (slots s) now who ++ dealt (slots s) (padded (rest_of s.game (slots s)) later) who)
both_dealt s now later who e =
    dealt_joined (slots s) now (padded (rest_of s.game (slots s)) later) who (e ∙ sym (length_padded (rest_of s.game (slots s)) later ∙ length-map (slots s) (λ s'. record { receiver = s'.receiver; count = s'.count - gets s.game s'.receiver s'.count })))

-- the cards of the street and then those that come later, added to cards, are those of both
cards_twice : (s : State) (now later : List (List ℕ)) (own : List ℕ) (who : Receiver) → length now ≡ length (slots s) → slots (after s now) ≡ lacking (rest_of s.game (slots s))
    → union (union own (dealt (next_slots s) now who)) (dealt (slots (after s now)) later who) ≡ union own (dealt (slots s) (whole_runout s now later) who)
cards_twice s now later own who e after-slots =
    ap (λ c. union (union own c) (dealt (slots (after s now)) later who)) (dealt_next s.game (slots s) now who)
    ∙ ap (λ c. union (union own (dealt (slots s) now who)) c) (later_dealt s now later who after-slots)
    ∙ union_twice own (dealt (slots s) now who) (dealt (slots s) (padded (rest_of s.game (slots s)) later) who) (dealt (slots s) (whole_runout s now later) who) (both_dealt s now later who e)

pub own_same : (s : State) (now later : List (List ℕ)) (i : ℕ) → length now ≡ length (slots s) → slots (after s now) ≡ lacking (rest_of s.game (slots s)) → own_after (after s now) later i ≡ own_after s (whole_runout s now later) i
own_same s now later i e after-slots = elim (cases_lt i (length s.hands)) [
  | inl l ↦
      let z : 0 + i ≡ i = omega arith in
      let own = slice_index_or s.hands i [] in
      let hand : slice_index_or (after s now).hands i [] ≡ union own (dealt (next_slots s) now (Hand i)) =
      index_after (next_slots s) now 0 s.hands i l ∙ ap (λ k. union own (dealt (next_slots s) now (Hand k))) z in
      ap (λ c. union c (dealt (slots (after s now)) later (Hand i))) hand ∙ cards_twice s now later own (Hand i) e after-slots
  | inr g ↦
      let none = absent_hand (board_size s.game - length s.board) (own_size s.game) s.hands i g in
      let hand : slice_index_or (after s now).hands i [] ≡ [] = index_beyond (after s now).hands i (omega (arith, length_after (next_slots s) now 0 s.hands)) in
      let own : slice_index_or s.hands i [] ≡ [] = index_beyond s.hands i g in
      let before : dealt (slots (after s now)) later (Hand i) ≡ [] = later_dealt s now later (Hand i) after-slots ∙ dealt_absent (slots s) (padded (rest_of s.game (slots s)) later) (Hand i) none in
      let whole : dealt (slots s) (whole_runout s now later) (Hand i) ≡ [] = dealt_absent (slots s) (whole_runout s now later) (Hand i) none in
      ap (λ c. union c (dealt (slots (after s now)) later (Hand i))) hand ∙ ap (λ c. union [] c) before ∙ sym (ap (λ c. union c (dealt (slots s) (whole_runout s now later) (Hand i))) own ∙ ap (λ c. union [] c) whole)
]

pub board_same : (s : State) (now later : List (List ℕ)) → length now ≡ length (slots s) → slots (after s now) ≡ lacking (rest_of s.game (slots s)) → board_after (after s now) later ≡ board_after s (whole_runout s now later)
board_same s now later e after-slots = cards_twice s now later s.board Board e after-slots

-- hands that are dealt to twice
hands_twice : (first second both : List Slot) (now later whole : List (List ℕ)) (number : ℕ) (hands : List (List ℕ))
    → ((own : List ℕ) (i : ℕ) → union (union own (dealt first now (Hand i))) (dealt second later (Hand i)) ≡ union own (dealt both whole (Hand i)))
    → hands_after second later number (hands_after first now number hands) ≡ hands_after both whole number hands
hands_twice first second both now later whole number [] h = refl
hands_twice first second both now later whole number (hand ∷ hands) h =
    ap (λ c. c ∷ hands_after second later (number + 1) (hands_after first now (number + 1) hands)) (h hand number)
    ∙ ap (λ l. union hand (dealt both whole (Hand number)) ∷ l) (hands_twice first second both now later whole (number + 1) hands h)

-- what is known at the end is the same
pub end_same : (s : State) (now later : List (List ℕ)) → length now ≡ length (slots s) → slots (after s now) ≡ lacking (rest_of s.game (slots s)) → at_end (after s now) later ≡ at_end s (whole_runout s now later)
end_same s now later e after-slots =
    let whole = whole_runout s now later in
    let state : List (List ℕ) → List ℕ → State = λ h b. record { game = s.game; hands = h; board = b; dead = s.dead } in
    let hands : (at_end (after s now) later).hands ≡ (at_end s whole).hands =
    hands_twice (next_slots s) (slots (after s now)) (slots s) now later whole 0 s.hands (λ own i. cards_twice s now later own (Hand i) e after-slots) in
    ap (λ h. state h (at_end (after s now) later).board) hands ∙ ap (λ b. state (at_end s whole).hands b) (board_same s now later e after-slots)

hands_alike : (some : List Slot) (sets others : List (List ℕ)) (number : ℕ) (hands : List (List ℕ)) → AllAlike sets others → hands_after some sets number hands ≡ hands_after some others number hands
hands_alike some sets others number [] e = refl
hands_alike some sets others number (hand ∷ hands) e =
    ap (λ c. c ∷ hands_after some sets (number + 1) hands) (union_same hand (dealt some sets (Hand number)) hand (dealt some others (Hand number)) (λ k l. ap (λ t. has_card hand k || t) (dealt_alike some sets others (Hand number) e k)))
    ∙ ap (λ l. union hand (dealt some others (Hand number)) ∷ l) (hands_alike some sets others (number + 1) hands e)

-- runouts of the same cards end the same
pub end_alike : (s : State) (sets others : List (List ℕ)) → AllAlike sets others → at_end s sets ≡ at_end s others
end_alike s sets others e =
    let state : List (List ℕ) → List ℕ → State = λ h b. record { game = s.game; hands = h; board = b; dead = s.dead } in
    ap (λ h. state h (at_end s sets).board) (hands_alike (slots s) sets others 0 s.hands e)
    ∙ ap (λ b. state (at_end s others).hands b) (union_same s.board (dealt (slots s) sets Board) s.board (dealt (slots s) others Board) (λ k l. ap (λ t. has_card s.board k || t) (dealt_alike (slots s) sets others Board e k)))

same_values : (f g : ℕ → Option (List ℕ)) → ((i : ℕ) → f i ≡ g i) → f ≡ g
same_values f g h = λ t i. h i t

-- two runouts, perhaps of two states, that end with the same cards have the same winners
winners_same : (deal other : Showdown) (pot : ℕ) (side : Side) (runout runout' : List (List ℕ)) → deal.state.game ≡ other.state.game → deal.pots ≡ other.pots
    → ((i : ℕ) → own_after deal.state runout i ≡ own_after other.state runout' i) → board_after deal.state runout ≡ board_after other.state runout' → winners deal pot side runout ≡ winners other pot side runout'
unfolding winners
winners_same deal other pot side runout runout' game pots own board =
    let value = same_values (value_after side deal.state runout) (value_after side other.state runout') (λ i.
    ap (λ c. best side deal.state.game c (board_after deal.state runout)) (own i) ∙ ap (λ c. best side deal.state.game (own_after other.state runout' i) c) board
    ∙ ap (λ g. best side g (own_after other.state runout' i) (board_after other.state runout')) game) in
    ap (λ v. winners_of side v (eligible_in deal pot)) value ∙ ap (λ p. winners_of side (value_after side other.state runout') (slice_index_or p pot [])) pots

pub winners_whole : (deal : Showdown) (now later : List (List ℕ)) (pot : ℕ) (side : Side) → length now ≡ length (slots deal.state) → slots (after deal.state now) ≡ lacking (rest_of deal.state.game (slots deal.state))
    → winners (deal_after deal now) pot side later ≡ winners deal pot side (whole_runout deal.state now later)
winners_whole deal now later pot side e f =
    winners_same (deal_after deal now) deal pot side later (whole_runout deal.state now later) refl refl (λ i. own_same deal.state now later i e f) (board_same deal.state now later e f)

pub winners_alike : (deal : Showdown) (pot : ℕ) (side : Side) (sets others : List (List ℕ)) → AllAlike sets others → winners deal pot side sets ≡ winners deal pot side others
winners_alike deal pot side sets others e =
    winners_same deal deal pot side sets others refl refl
    (λ i. union_same _ _ _ _ (λ k l. ap (λ t. has_card (slice_index_or deal.state.hands i []) k || t) (dealt_alike (slots deal.state) sets others (Hand i) e k)))
    (union_same _ _ _ _ (λ k l. ap (λ t. has_card deal.state.board k || t) (dealt_alike (slots deal.state) sets others Board e k)))
