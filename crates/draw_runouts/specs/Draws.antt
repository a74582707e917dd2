-- Deals without a board, whose last slot takes few cards.
use Rattle.std.specs.Prelude.{ℕ, ◌&&◌, Bool, not, if◌then◌else◌, List, [], ◌∷◌, nat_le, nat_lt}
use Rattle.card_sets.specs.Games.{has_board}
use Rattle.card_sets.specs.declared.games.Game.{Game}
use Rattle.runout_ranges.specs.Shapes.{slots_of}
use Rattle.runout_ranges.specs.declared.shapes.Receiver.{Receiver}
use Rattle.runout_ranges.specs.declared.shapes.Receiver.TheVariants.{Board, Hand}
use Rattle.runout_ranges.specs.declared.shapes.Shape.{Shape}
use Rattle.runout_ranges.specs.declared.shapes.Slot.{Slot}
use Rattle.showdown_tally.specs.Showdown.{has_two_sides}
use Rattle.showdown_tally.specs.declared.table.Table.{Table}
use Rattle.runout_walk.specs.Listing.{last_count}

-- the hand that gets cards, and 0 for the board
abbrev pub hand_at : Receiver → ℕ
hand_at Board = 0
hand_at (Hand h) = h

-- the hand of the last slot
abbrev pub last_hand : List Slot → ℕ
last_hand [] = 0
last_hand (slot ∷ []) = hand_at slot.receiver
last_hand (slot ∷ next ∷ slots) = last_hand (next ∷ slots)

-- how many cards the last hand may draw: two in a game for both sides, and else three
abbrev pub most_draw : Game → ℕ
most_draw game = if has_two_sides game then 2 else 3

-- whether a table's runouts end with a draw: a game without a board, in which some hand lacks cards, and the last that does lacks one to
-- three, or to two in a game for both sides
abbrev pub are_draws : Table → Shape → Bool
are_draws table shape = not (has_board table.known.game) && nat_lt 0 (last_count (slots_of shape)) && nat_le (last_count (slots_of shape)) (most_draw table.known.game)
