use Rattle.std.proofs.Common.{sym, ◌∙◌, arith}
use Rattle.board_runouts.proofs.FirstRanks.{rank_behind}
use Rattle.board_runouts.proofs.row.last_rank.Goals as goal

pub returns-in-Some : goal.returns-in-Some
returns-in-Some c = λ card more r. let l = rank_behind c.args.cards card c.in-Some.card more r (sym c.last.ensures.value ∙ c.in-Some.is) in omega (arith, l, c.rank.ensures.value)
