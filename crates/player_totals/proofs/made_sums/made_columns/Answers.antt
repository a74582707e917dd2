use Rattle.player_totals.specs.Made.{made_columns}
use Rattle.report_sheet.proofs.CallerLemmas.{then_words, words_more}
use Rattle.player_totals.proofs.made_sums.made_columns.Goals as goal

pub returns : goal.returns
unfolding made_columns
returns c =
    let two = then_words _ _ _ _ _ c.in_ok-name_and_money.ensures c.in_ok-name_and_money-2.ensures in
    rw (two, words_more) at c.name_and_money-3.ensures
