use Rattle.std.proofs.Common.{◌≡◌, ◌+◌, length, take}
use Rattle.board_runouts.specs.PlainRanks.{MainsGrow}
use Rattle.board_runouts.proofs.plain_ranks.count_mains.Given as goal

abbrev pub invariant-loop-ranks : goal.invariant-loop-ranks
invariant-loop-ranks g l = record {
  grown : MainsGrow l.row (take l.ranks-index l.all) l.fn.cells l.cells;
  same : length l.cells ≡ 2048;
  steps : l.steps ≡ l.fn.steps + l.ranks-index;
}
