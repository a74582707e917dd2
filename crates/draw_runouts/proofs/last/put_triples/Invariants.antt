use Rattle.std.proofs.Common.{◌≡◌, ◌≤◌, ℕ, List, [], length}
use Rattle.std.specs.List.{slice_range}
use Rattle.card_sets.specs.Choose.{choose}
use Rattle.draw_runouts.specs.Worth.{number_of}
use Rattle.draw_runouts.proofs.DrawLists.{IsFilling}
use Rattle.draw_runouts.proofs.last.put_triples.Given as goal

abbrev pub decreases-loop-rest : goal.decreases-loop-rest
decreases-loop-rest l = length l.rest

abbrev pub invariant-loop-rest : goal.invariant-loop-rest
invariant-loop-rest l = record {
  way : (rows : List (List ℕ)) → IsFilling (number_of rows l.planes) [] (slice_range (choose 3 l.fn.cards) l.fn.range.lo l.fn.range.hi) (slice_range (choose 3 l.rest) l.lo l.hi) l.used l.values;
  room : length l.values ≡ length l.fn.values;
  order : l.lo ≤ l.hi;
  inside : l.hi ≤ length (choose 3 l.rest);
  few : length l.rest ≤ 52;
  pairs : l.pairs ≡ length (choose 2 l.rest);
}
