use Rattle.std.proofs.Common.{◌∷◌, [], ap, ◌∙◌}
use Rattle.std.specs.Prelude.{codes}
use Rattle.hand_blocks.specs.HandEquities.{all_in_line}
use Rattle.report_sheet.specs.Sheets.{with_words}
use Rattle.report_sheet.proofs.CallerLemmas.{line_ends, then_words}
use Rattle.hand_blocks.proofs.hand_equities.all_in_line.Goals as goal

pub returns : goal.returns
unfolding all_in_line
returns c =
    let street = c.in_ok-name_and_word.ensures ∙ ap (λ word. with_words c.args.sheet.now (codes "all-in" ∷ word ∷ [])) c.street_text.ensures in
    let two = then_words _ _ _ _ _ street c.in_ok-name_and_number.ensures in
    rw (line_ends _ _ _ two c.requires) at c.end.ensures
