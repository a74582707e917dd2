use Rattle.hand_audit.proofs.lemmas.later_streets.LaterTables.{lines_know_no_less}
use Rattle.hand_audit.proofs.laws.law_later_streets_know_no_less.Goals as goal

pub returns : goal.returns
returns c = lines_know_no_less c.law_places_are_apart.ensures c.law_cards_belong.ensures c.law_a_table_shows_each_seat.ensures c.law_a_table_shows_dead_cards.ensures c.law_stud_cards_are_all_that_were_dealt.ensures
