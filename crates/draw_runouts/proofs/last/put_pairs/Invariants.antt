use Rattle.std.proofs.Common.{◌≡◌, ◌≤◌, length, take}
use Rattle.std.specs.List.{slice_range}
use Rattle.card_sets.specs.Choose.{choose}
use Rattle.draw_runouts.specs.Worth.{number_at}
use Rattle.draw_runouts.proofs.DrawLists.{IsFilling}
use Rattle.draw_runouts.proofs.last.put_pairs.Given as goal

abbrev pub decreases-loop-rest : goal.decreases-loop-rest
decreases-loop-rest l = length l.rest

abbrev pub invariant-loop-rest : goal.invariant-loop-rest
invariant-loop-rest l = record {
  way : IsFilling (number_at l.rows l.base) (take l.fn.used l.fn.values) (slice_range (choose 2 l.fn.cards) l.fn.range.lo l.fn.range.hi) (slice_range (choose 2 l.rest) l.lo l.hi) l.used l.values;
  room : length l.values ≡ length l.fn.values;
  order : l.lo ≤ l.hi;
  inside : l.hi ≤ length (choose 2 l.rest);
}
