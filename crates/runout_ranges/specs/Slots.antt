-- Who lacks cards in a known state, and which cards may come.
use Rattle.std.specs.Prelude.{ℕ, zero, suc, ◌+◌, ◌-◌, Bool, true, false, ◌==◌, ◌&&◌, not, if◌then◌else◌, List, [], ◌∷◌, ◌++◌, map, length}
use Rattle.std.specs.List.{list_any}
use Rattle.card_sets.specs.Cards.{has_card, cards_where}
use Rattle.card_sets.specs.Games.{own_size, board_size}
use Rattle.card_sets.specs.State.{State}
use Rattle.runout_ranges.specs.declared.shapes.Receiver.{Receiver}
use Rattle.runout_ranges.specs.declared.shapes.Receiver.TheVariants.{Board, Hand}
use Rattle.runout_ranges.specs.declared.shapes.Slot.{Slot}

-- the cards that may come: not on the board, not dead, and in no hand
abbrev pub unseen : State → List ℕ
unseen s = cards_where (λ c. not (has_card s.board c) && not (has_card s.dead c) && not (list_any (λ hand. has_card hand c) s.hands))

-- the slot of a receiver that lacks n cards; none if it lacks none
abbrev pub slot_of : Receiver → ℕ → List Slot
slot_of receiver zero = []
slot_of receiver (suc n) = record { receiver = receiver; count = suc n } ∷ []

-- the slots of hands that have a full size; the first hand has the given number
abbrev pub hand_slots : ℕ → ℕ → List (List ℕ) → List Slot
hand_slots size number [] = []
hand_slots size number (hand ∷ hands) = slot_of (Hand number) (size - length hand) ++ hand_slots size (number + 1) hands

-- the slot of each receiver that lacks cards, the board first and then the hands in order
abbrev pub slots : State → List Slot
slots s = slot_of Board (board_size s.game - length s.board) ++ hand_slots (own_size s.game) 0 s.hands

-- the number of cards of each slot
abbrev pub counts_of : List Slot → List ℕ
counts_of some = map (λ s. s.count) some

-- whether two receivers are the same
abbrev pub same_receiver : Receiver → Receiver → Bool
same_receiver Board Board = true
same_receiver Board (Hand b) = false
same_receiver (Hand a) Board = false
same_receiver (Hand a) (Hand b) = a == b

-- the cards that a runout of the slots gives a receiver; none if the receiver has no slot
abbrev pub dealt : List Slot → List (List ℕ) → Receiver → List ℕ
dealt [] sets receiver = []
dealt (slot ∷ rest) [] receiver = []
dealt (slot ∷ rest) (set ∷ sets) receiver = if same_receiver slot.receiver receiver then set else dealt rest sets receiver
