use Rattle.std.specs.Prelude.{◌≡◌, map, max}
use Rattle.hand_choice.specs.AllowedFives.{AreFives}
use Rattle.hand_audit.specs.Marks.{highest}
use Rattle.hand_audit.specs.MarkNumbers.{number_of_five, top_number}
use Rattle.hand_audit.proofs.marks.top_number.Given as goal

abbrev pub invariant-loop-five : goal.invariant-loop-five
invariant-loop-five l = record {
  all : max l.top (highest (map (number_of_five l.side) l.five-iterator)) ≡ top_number l.side l.fn.fives;
  fives : AreFives l.five-iterator;
}
