use Rattle.std.proofs.Common.{arith}
use Rattle.board_ranks.proofs.ThreeCards.{no_three, one_apart, three_of}
use Rattle.board_ranks.proofs.three_ranks.three_cards.Goals as goal

pub returns-in_err-card : goal.returns-in_err-card
returns-in_err-card c = rw c.from_residual.ensures (no_three c.args.own c.args.low c.args.mid c.args.high c.rising.ensures.set c.requires.low c.in_err-card.ensures)

pub board_with-requires-clause-apart : goal.board_with-requires-clause-apart
board_with-requires-clause-apart c = one_apart c.args.own c.empty-none.result c.with-one.result c.in_ok-card.card c.rising.ensures.set c.empty-none.ensures c.with-one.ensures c.in_ok-card.ensures.1

pub returns : goal.returns
returns c =
    three_of c.args.own c.empty-none.result c.with-one.result c.in_ok-card.card c.args.low c.args.mid c.args.high c.board_with.result
    c.rising.ensures.set c.rising-2.ensures.set c.empty-none.ensures c.with-one.ensures (omega (arith, c.in_ok-card.ensures.0, c.requires.low)) c.in_ok-card.ensures.0 c.board_with.ensures
