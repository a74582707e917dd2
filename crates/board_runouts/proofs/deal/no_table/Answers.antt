use Rattle.std.proofs.Common.{◌≤◌, arith}
use Rattle.board_runouts.proofs.NoTable.{no_disjoint, no_fitting, no_unseen, no_unused}
use Rattle.board_runouts.proofs.deal.no_table.Goals as goal

pub invariant_of-known : goal.invariant_of-known
invariant_of-known c = record {
  few = (let f : 0 ≤ 10 = omega arith in f);
  disjoint = no_disjoint 10 c.empty-none.result c.deck.result c.empty-none.ensures;
  unused = no_unused 10 c.empty-none.result c.empty-none.ensures;
  fitting = no_fitting 10 c.empty-none.result c.empty-none.ensures;
}

pub returns-clause-unseen : goal.returns-clause-unseen
returns-clause-unseen c = no_unseen c.empty-none.result c.deck.result c.deck.ensures
