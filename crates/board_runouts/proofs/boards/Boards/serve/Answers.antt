use Rattle.showdown_tally.specs.Deals.{deal_of}
use Rattle.board_runouts.proofs.boards.Boards.serve.Goals as goal

pub invariant_of-self : goal.invariant_of-self
invariant_of-self c = record {
  same = c.of-self.ensures;
  all = c.requires.shape.cards;
  right = c.clear.ensures.right (deal_of c.of-self.result.table);
  coded = c.clear-2.ensures.right (deal_of c.of-self.result.table);
  best = c.clear-3.ensures (deal_of c.of-self.result.table);
}
