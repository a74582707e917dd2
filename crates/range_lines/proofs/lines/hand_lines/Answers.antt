use Rattle.std.proofs.Common.{ap}
use Rattle.std.proofs.lemmas.Result.{on_ok_weaker}
use Rattle.range_lines.proofs.BlockFacts.{then_hand}
use Rattle.range_lines.proofs.lines.hand_lines.Goals as goal

pub returns : goal.returns
returns c =
    on_ok_weaker c.ev_line.result
    (λ more. then_hand c.args.sheet.now c.wide_side_line.new.self c.ev_line.new.self c.args.tally.now c.args.all c.args.hand c.cell_of-cell.result.win c.cell_of-cell.result.tie c.cell_of-cell.result.lose c.units_of.result
    (ap (λ x. x.win) c.cell_of-cell.ensures) (ap (λ x. x.tie) c.cell_of-cell.ensures) (ap (λ x. x.lose) c.cell_of-cell.ensures) c.units_of.ensures c.in_ok-wide_side_line.ensures more)
    c.ev_line.ensures
