use Rattle.player_totals.specs.Totals.{hands_line}
use Rattle.report_sheet.proofs.CallerLemmas.{line_ends, then_words}
use Rattle.player_totals.proofs.total_lines.hands_line.Goals as goal

pub returns : goal.returns
unfolding hands_line
returns c =
    let two = then_words _ _ _ _ _ c.in_ok-text.ensures c.in_ok-name_and_number.ensures in
    let three = then_words _ _ _ _ _ two c.in_ok-name_and_number-2.ensures in
    let four = then_words _ _ _ _ _ three c.in_ok-name_and_number-3.ensures in
    rw (line_ends _ _ _ four c.requires.between) at c.end.ensures
