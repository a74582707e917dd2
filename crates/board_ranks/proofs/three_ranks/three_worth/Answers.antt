use Rattle.std.proofs.Common.{arith}
use Rattle.board_ranks.proofs.ThreeCards.{three_worth}
use Rattle.board_ranks.proofs.three_ranks.three_worth.Goals as goal

pub returns-in_default : goal.returns-in_default
returns-in_default c = λ three is. absurd (c.in_default.ensures three is)

pub two_own_worth-requires-clause-least : goal.two_own_worth-requires-clause-least
two_own_worth-requires-clause-least c = omega (arith, c.in-Some.ensures.1)

pub two_own_worth-requires-clause-most : goal.two_own_worth-requires-clause-most
two_own_worth-requires-clause-most c = omega (arith, c.in-Some.ensures.1)

pub two_own_worth-requires-clause-apart : goal.two_own_worth-requires-clause-apart
two_own_worth-requires-clause-apart c = c.in-Some.ensures.0.placed.apart

pub returns : goal.returns
returns c = three_worth c.args.side c.args.own c.in-Some.three c.args.low c.args.mid c.args.high c.two_own_worth.result c.in-Some.ensures.0 c.two_own_worth.ensures
