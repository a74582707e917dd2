use Rattle.std.proofs.Common.{◌≡◌, ◌++◌, ◌-◌, ◌+◌, ◌≤◌, length, take}
use Rattle.card_sets.specs.Games.{own_size, board_size}
use Rattle.runout_ranges.specs.Slots.{slot_of, hand_slots}
use Rattle.runout_ranges.specs.declared.shapes.Receiver.TheVariants.{Board}
use Rattle.runout_ranges.proofs.lacking.lacking.Given as goal

abbrev pub invariant-loop-number : goal.invariant-loop-number
invariant-loop-number l = record {
  slots : l.lacking ≡ slot_of Board (board_size l.fn.known.game - length l.fn.known.board) ++ hand_slots (own_size l.fn.known.game) 0 (take l.number l.fn.known.hands);
  few : length l.lacking ≤ l.number + 1;
}
