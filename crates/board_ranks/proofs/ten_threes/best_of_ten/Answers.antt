use Rattle.std.proofs.Common.{◌∙◌, ap, max}
use Rattle.board_ranks.specs.Threes.{three_number}
use Rattle.board_ranks.proofs.ThreeCards.{ten_threes}
use Rattle.board_ranks.proofs.ten_threes.best_of_ten.Goals as goal

pub returns : goal.returns
returns c =
    c.max-3.ensures
    ∙ ap (max c.best_third-lowest_two.result) (c.max-2.ensures ∙ ap (max c.best_two-with_first.result) c.max.ensures)
    ∙ ten_threes (three_number c.args.values.now) c.args.board.now.first c.args.board.now.second c.args.board.now.third c.args.board.now.fourth c.args.board.now.fifth
    c.best_third-lowest_two.result c.best_two-with_first.result c.best_two-with_second.result c.three_number-highest.result
    c.best_third-lowest_two.ensures c.best_two-with_first.ensures c.best_two-with_second.ensures c.three_number-highest.ensures
