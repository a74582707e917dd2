use Rattle.std.specs.Prelude.{◌≡◌, ◌<◌, ◌==◌, map, max, filter}
use Rattle.hand_choice.specs.AllowedFives.{AreFives}
use Rattle.hand_audit.specs.Marks.{highest, top_card}
use Rattle.hand_audit.specs.MarkNumbers.{number_of_five}
use Rattle.hand_audit.proofs.marks.mark_with.Given as goal

abbrev pub invariant-loop-five : goal.invariant-loop-five
invariant-loop-five l = record {
  all : max l.mark (highest (map (top_card l.side) (filter (λ five. number_of_five l.side five == l.number) l.five-iterator))) ≡ highest (map (top_card l.side) (filter (λ five. number_of_five l.side five == l.number) l.fn.fives));
  fives : AreFives l.five-iterator;
  card : l.mark < 52;
}
