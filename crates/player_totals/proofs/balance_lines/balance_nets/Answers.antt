use Rattle.player_totals.specs.Balance.{balance_nets}
use Rattle.report_sheet.proofs.CallerLemmas.{then_words, words_more}
use Rattle.player_totals.proofs.balance_lines.balance_nets.Goals as goal

pub returns : goal.returns
unfolding balance_nets
returns c =
    let two = then_words _ _ _ _ _ c.in_ok-text.ensures c.in_ok-difference.ensures in
    let three = then_words _ _ _ _ _ two c.in_ok-text-2.ensures in
    let four = then_words _ _ _ _ _ three c.in_ok-difference-2.ensures in
    rw (four, words_more) at c.name_and_number.ensures
