use Rattle.hand_blocks.specs.HandEquities.{short_line}
use Rattle.report_sheet.proofs.CallerLemmas.{line_ends, then_words}
use Rattle.hand_blocks.proofs.hand_equities.deck_short.Goals as goal

pub returns : goal.returns
unfolding short_line
returns c =
    let two = then_words _ _ _ _ _ c.in_ok-text.ensures c.in_ok-name_and_word.ensures in
    rw (line_ends _ _ _ two c.requires) at c.end.ensures
