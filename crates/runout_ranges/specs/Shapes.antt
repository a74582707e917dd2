-- The slots and the runouts of a shape.
use Rattle.std.specs.Prelude.{◌≡◌, ℕ, List, take, length}
use Rattle.card_sets.specs.State.{State}
use Rattle.runout_ranges.specs.Runouts.{runouts}
use Rattle.runout_ranges.specs.Slots.{counts_of, unseen, slots}
use Rattle.runout_ranges.specs.Ways.{ways, Fills}
use Rattle.runout_ranges.specs.declared.shapes.Shape.{Shape}
use Rattle.runout_ranges.specs.declared.shapes.Slot.{Slot}

-- the slots in use
abbrev pub slots_of : Shape → List Slot
slots_of shape = take shape.used shape.slots

-- all ways to fill them
abbrev pub runouts_of : Shape → List (List (List ℕ))
runouts_of shape = runouts shape.unseen (counts_of (slots_of shape))

-- the number of ways: the product of the binomials, slot by slot, over the cards left
abbrev pub ways_of : Shape → ℕ
ways_of shape = ways (length shape.unseen) (counts_of (slots_of shape))

-- the sets fill the shape's slots
abbrev pub FillsSlots : Shape → List (List ℕ) → Type 0
FillsSlots shape sets = Fills shape.unseen (counts_of (slots_of shape)) sets

-- the shape has the cards that may come in a known state, and a slot for each receiver that lacks cards
pub record IsShapeOf (state : State) (shape : Shape) : Type 0 where
  pub cards : shape.unseen ≡ unseen state
  pub lacking : slots_of shape ≡ slots state
