use Rattle.std.proofs.Common.{◌+◌}
use Rattle.board_runouts.proofs.RowSets.{row_for}
use Rattle.board_runouts.proofs.rows.Rows.ready.Goals as goal

pub returns-then-has_all-clause-ready : goal.returns-then-has_all-clause-ready
returns-then-has_all-clause-ready c = record {
  rows = λ pot row lt at. row_for c.args.start.now pot row (c.requires.right (c.from-base.result + pot) row at) (c.has_all.ensures.names pot row c.if-has_all.true lt at);
  names = λ pot row lt at. c.has_all.ensures.names pot row c.if-has_all.true lt at;
  right = c.requires.right;
}

pub put-requires-clause-right : goal.put-requires-clause-right
put-requires-clause-right c = c.requires.right
