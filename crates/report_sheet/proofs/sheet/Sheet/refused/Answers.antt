use Rattle.report_sheet.specs.SpotLines.{refused_words}
use Rattle.report_sheet.proofs.SheetFacts.{then_words, words_more}
use Rattle.report_sheet.proofs.sheet.Sheet.refused.Goals as goal

pub returns : goal.returns
unfolding refused_words
returns c =
    let two = then_words _ _ _ _ _ c.in_ok-text.ensures c.in_ok-text-2.ensures in
    let three = then_words _ _ _ _ _ two c.in_ok-number.ensures in
    rw (three, words_more) at c.text-3.ensures
