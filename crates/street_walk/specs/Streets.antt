-- The next street of a known state: the cards that it deals, the state after it, and the number of ways in which a
-- runout divides into its cards and the rest.
use Rattle.std.specs.Prelude.{◌≡◌, ℕ, ◌+◌, ◌-◌, ◌*◌, ◌<◌, min, max, nat_lt, if◌then◌else◌, IsTrue, List, [], ◌∷◌, map, length, slice_index_or}
use Rattle.card_sets.specs.Cards.{union}
use Rattle.card_sets.specs.Games.{family_of, has_board, has_bring_in, own_size}
use Rattle.card_sets.specs.State.{State}
use Rattle.card_sets.specs.declared.games.Family.{Family}
use Rattle.card_sets.specs.declared.games.Family.TheVariants as family
use Rattle.card_sets.specs.declared.games.Game.{Game}
use Rattle.runout_ranges.specs.Runouts.{runouts}
use Rattle.runout_ranges.specs.Slots.{slots, unseen, counts_of, dealt}
use Rattle.runout_ranges.specs.Shapes.{slots_of}
use Rattle.runout_ranges.specs.Ways.{binomial}
use Rattle.runout_ranges.specs.declared.shapes.Receiver.{Receiver}
use Rattle.runout_ranges.specs.declared.shapes.Receiver.TheVariants.{Board, Hand}
use Rattle.runout_ranges.specs.declared.shapes.Shape.{Shape}
use Rattle.runout_ranges.specs.declared.shapes.Slot.{Slot}

-- the number of cards that a board gets next: all that it lacks except the last two, the turn and the river, and then
-- one at a time
abbrev pub board_gets : ℕ → ℕ
board_gets lacking = if nat_lt 2 lacking then lacking - 2 else min lacking 1

-- the number of cards that a hand gets next: one in stud, and all that it lacks in other games, whether there is a
-- board or not
abbrev pub hand_gets : Family → ℕ → ℕ
hand_gets family.Board lacking = lacking
hand_gets family.Stud lacking = min lacking 1
hand_gets family.Draw lacking = lacking
hand_gets family.TripleDraw lacking = lacking

-- the number of cards that a receiver gets next
abbrev pub gets : Game → Receiver → ℕ → ℕ
gets game Board lacking = board_gets lacking
gets game (Hand i) lacking = hand_gets (family_of game) lacking

-- the slots of all cards to come, with only the cards that come on the next street; a receiver that lacks a card gets
-- at least one, so each slot stays
abbrev pub next_of : Game → List Slot → List Slot
next_of game some = map (λ s. record { receiver = s.receiver; count = gets game s.receiver s.count }) some

-- the slots of the next street
abbrev pub next_slots : State → List Slot
next_slots s = next_of s.game (slots s)

-- all choices of the next street's cards, in order
abbrev pub choices_of : State → List (List (List ℕ))
choices_of s = runouts (unseen s) (counts_of (next_slots s))

-- hands, the first of which has a number, each with the cards that the sets of the slots deal to it
abbrev pub hands_after : List Slot → List (List ℕ) → ℕ → List (List ℕ) → List (List ℕ)
hands_after some sets number [] = []
hands_after some sets number (hand ∷ hands) = union hand (dealt some sets (Hand number)) ∷ hands_after some sets (number + 1) hands

-- the state after the sets of the slots are dealt, each to the receiver of its slot
abbrev pub with_dealt : State → List Slot → List (List ℕ) → State
with_dealt s some sets = record { game = s.game; hands = hands_after some sets 0 s.hands; board = union s.board (dealt some sets Board); dead = s.dead }

-- the state after a choice of the next street's cards
abbrev pub after : State → List (List ℕ) → State
after s sets = with_dealt s (next_slots s) sets

-- the state at the end, after a runout
abbrev pub at_end : State → List (List ℕ) → State
at_end s runout = with_dealt s (slots s) runout

-- the number of cards after the next street: a board has three cards, and then one more each time; a hand of stud has
-- one more until it is full; a hand of another game is full
pub record GoesOn (s next : State) : Type 0 where
  pub board : IsTrue (has_board s.game) → length s.board < 5 → length next.board ≡ max 3 (length s.board + 1)
  pub hands : (i : ℕ) → i < length s.hands → length (slice_index_or next.hands i []) ≡ (if has_bring_in s.game then min (own_size s.game) (length (slice_index_or s.hands i []) + 1) else own_size s.game)

-- the number of ways to divide the cards of the slots into those of the next street and those that come later
abbrev pub divided_of : Game → List Slot → ℕ
divided_of game [] = 1
divided_of game (s ∷ some) = binomial s.count (gets game s.receiver s.count) * divided_of game some

-- the number of ways to divide one runout in this way
abbrev pub divisions : State → ℕ
divisions s = divided_of s.game (slots s)

-- no card is lacking: the last street has been dealt
abbrev pub IsLastStreet : State → Type 0
IsLastStreet s = slots s ≡ []

-- the shape has the cards that may come in a known state, and a slot for each receiver that gets cards on the next
-- street
pub record IsNextOf (state : State) (shape : Shape) : Type 0 where
  pub cards : shape.unseen ≡ unseen state
  pub slots : slots_of shape ≡ next_slots state
