use Rattle.report_sheet.proofs.CallerLemmas.{line_ends, then_words}
use Rattle.report_sheet.specs.SpotLines.{spot_name}
use Rattle.range_lines.specs.Blocks.{counted_line}
use Rattle.range_lines.proofs.lines.counted_line.Goals as goal

pub returns : goal.returns
unfolding counted_line spot_name
returns c =
    let two = then_words _ _ _ _ _ c.in_ok-spot_and_game.ensures c.in_ok-text.ensures in
    let three = then_words _ _ _ _ _ two c.in_ok-number.ensures in
    let four = then_words _ _ _ _ _ three c.in_ok-text-2.ensures in
    let five = then_words _ _ _ _ _ four c.in_ok-number-2.ensures in
    let six = then_words _ _ _ _ _ five c.in_ok-text-3.ensures in
    let seven = then_words _ _ _ _ _ six c.in_ok-wide_number.ensures in
    rw (line_ends _ _ _ seven c.requires) at c.end.ensures
