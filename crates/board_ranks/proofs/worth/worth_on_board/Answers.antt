use Rattle.std.proofs.Common.{arith}
use Rattle.board_ranks.proofs.FullBoards.{worth_of_all, worth_of_none}
use Rattle.board_ranks.proofs.worth.worth_on_board.Goals as goal

pub returns-in_default : goal.returns-in_default
returns-in_default c = worth_of_none c.args.held.now.game c.args.held.now.own c.args.held.now.board c.args.low c.args.high _ _ c.in_default.ensures

pub plain_value-requires-clause-board : goal.plain_value-requires-clause-board
plain_value-requires-clause-board c = omega (arith, c.in-Some.ensures.1, c.args.held.now.three)

pub low_value-requires-clause-board : goal.low_value-requires-clause-board
low_value-requires-clause-board c = omega (arith, c.in-Some.ensures.1, c.args.held.now.three)

pub returns : goal.returns
returns c = worth_of_all c.args.held.now.game c.args.held.now.own c.args.held.now.board c.in-Some.full c.args.low c.args.high c.plain_value.result c.low_value.result c.args.held.now.dealt c.rising.ensures.set c.in-Some.ensures.0 c.plain_value.ensures c.low_value.ensures
