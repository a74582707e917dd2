-- Deals in which the board alone lacks cards.
use Rattle.std.specs.Prelude.{◌≡◌, ℕ, ◌+◌, ◌&&◌, Bool, if◌then◌else◌, List, [], ◌∷◌, length, nat_le}
use Rattle.card_sets.specs.Games.{has_board}
use Rattle.card_sets.specs.State.{State}
use Rattle.runout_ranges.specs.Slots.{slots, unseen, same_receiver}
use Rattle.runout_ranges.specs.Shapes.{slots_of}
use Rattle.runout_ranges.specs.Ways.{Within}
use Rattle.runout_ranges.specs.declared.shapes.Receiver.TheVariants.{Board}
use Rattle.runout_ranges.specs.declared.shapes.Shape.{Shape}
use Rattle.runout_ranges.specs.declared.shapes.Slot.{Slot}
use Rattle.showdown_tally.specs.declared.table.Table.{Table}

-- how many cards the board lacks, where nobody else lacks any: 0 elsewhere
abbrev pub board_lacks : List Slot → ℕ
board_lacks [] = 0
board_lacks (slot ∷ []) = if same_receiver slot.receiver Board then slot.count else 0
board_lacks (slot ∷ next ∷ rest) = 0

-- whether a table's runouts are boards: a game with a board, which alone lacks cards, two or more
abbrev pub are_boards : Table → Shape → Bool
are_boards table shape = has_board table.known.game && nat_le 2 (board_lacks (slots_of shape))

-- the board alone lacks cards
abbrev pub IsBoardAlone : State → Type 0
IsBoardAlone state = slots state ≡ record { receiver = Board; count = board_lacks (slots state) } ∷ []

-- cards that the board gets before its last two: unseen cards, with which the board lacks exactly two
pub record AreFirst (state : State) (taken : List ℕ) : Type 0 where
  pub unseen : Within taken (unseen state)
  pub size : length state.board + length taken ≡ 3
