use Rattle.std.proofs.Common.{◌≡◌, ◌+◌, length, take}
use Rattle.card_sets.specs.declared.games.Side.TheVariants.{High}
use Rattle.board_runouts.specs.Fronts.{HoldsFlushes, front_deal}
use Rattle.board_runouts.specs.KeptRows.{CellsGrow}
use Rattle.board_runouts.proofs.board_leaf.count_one_pot.Given as goal

abbrev pub invariant-loop-pair : goal.invariant-loop-pair
invariant-loop-pair g l = record {
  grown : CellsGrow (front_deal l.front) l.front.taken 0 High (take l.pair-index l.pairs) l.fn.cells l.cells;
  same : length l.cells ≡ 2048;
  flushes : HoldsFlushes l.front l.flushes;
  steps : l.steps ≡ l.fn.steps + l.pair-index;
}
