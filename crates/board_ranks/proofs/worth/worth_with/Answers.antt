use Rattle.std.proofs.Common.{◌∙◌}
use Rattle.board_ranks.proofs.FullBoards.{worth_of_ranks}
use Rattle.board_ranks.proofs.HighCalls.{not_omaha}
use Rattle.board_ranks.proofs.worth.worth_with.Goals as goal

pub returns-in-Holdem : goal.returns-in-Holdem
returns-in-Holdem c =
    worth_of_ranks c.args.held.now.game c.args.held.now.own c.args.held.now.board c.args.low c.args.high c.number.result c.args.ranks.now c.with_rank-all.result c.args.held.now.dealt (not_omaha c.args.held.now.game c.in-Holdem.is)
    c.rising.ensures.set c.rising-2.ensures.set c.args.held.now.full c.args.held.now.three c.args.held.now.apart c.requires.ranks c.with_rank-all.ensures
    (λ s have. c.number.ensures ∙ c.high_of_ranks.ensures s have)
