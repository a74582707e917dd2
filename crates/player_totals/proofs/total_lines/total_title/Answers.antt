use Rattle.std.proofs.Common.{◌∷◌, [], ap, ◌∙◌}
use Rattle.std.specs.Prelude.{codes}
use Rattle.report_sheet.specs.Sheets.{with_words}
use Rattle.player_totals.specs.Totals.{total_title}
use Rattle.report_sheet.proofs.CallerLemmas.{then_words, words_more}
use Rattle.player_totals.proofs.total_lines.total_title.Goals as goal

pub returns : goal.returns
unfolding total_title
returns c =
    let unit = c.in_ok-name_and_word.ensures ∙ ap (λ word. with_words c.args.sheet.now (codes "total" ∷ word ∷ [])) c.unit_word.ensures in
    let two = then_words _ _ _ _ _ unit c.in_ok-name_and_number.ensures in
    rw (two, words_more) at c.name_and_number-2.ensures
