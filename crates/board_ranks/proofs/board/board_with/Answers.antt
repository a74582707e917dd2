use Rattle.std.proofs.Common.{arith}
use Rattle.board_ranks.proofs.FullBoards.{none_low, none_high, some_board}
use Rattle.board_ranks.proofs.board.board_with.Goals as goal

pub returns-in_err-first : goal.returns-in_err-first
returns-in_err-first c =
    rw c.from_residual.ensures (none_low c.args.own c.args.board c.args.low c.args.high c.rising.ensures.set c.rising-2.ensures.set c.requires.apart c.requires.low (rw (← c.union-all.ensures) c.in_err-first.ensures))

pub returns-in_err-second : goal.returns-in_err-second
returns-in_err-second c =
    rw c.from_residual-in_err-second.ensures (none_high c.args.own c.args.board c.union-all.result c.in_ok-first.first c.args.low c.args.high c.rising.ensures.set c.rising-2.ensures.set c.requires.apart c.requires.high c.union-all.ensures c.in_ok-first.ensures.1 c.in_ok-first.ensures.0 (rw (← c.with-more.ensures) c.in_err-second.ensures))

pub returns : goal.returns
returns c =
    let low = c.in_ok-first.ensures.0 in
    let high = c.in_ok-second.ensures.0 in
    some_board c.args.own c.args.board c.union-all.result c.with-more.result c.with-longer.result c.with-full.result c.in_ok-first.first c.in_ok-second.second c.args.low c.args.high
    c.rising.ensures.set c.rising-2.ensures.set c.requires.apart c.rising-5.ensures.set (omega arith) (omega arith) c.union-all.ensures c.with-more.ensures c.with-longer.ensures c.with-full.ensures
    c.in_ok-first.ensures.0 c.in_ok-first.ensures.1 c.in_ok-second.ensures.0 c.in_ok-second.ensures.1
