use Rattle.std.proofs.Common.{◌≡◌, ◌+◌, take}
use Rattle.std.specs.Prelude.{slice_index}
use Rattle.std.specs.List.{sum_by}
use Rattle.board_runouts.proofs.plain_ranks.sum_ranks.Given as goal

abbrev pub invariant-loop-ranks : goal.invariant-loop-ranks
invariant-loop-ranks g l = record {
  sum_is : l.sum ≡ sum_by (λ ranks. slice_index l.codes.adds ranks) (take l.ranks-index l.all);
  steps : l.steps ≡ l.fn.steps + l.ranks-index;
}
