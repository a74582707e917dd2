use Rattle.hand_laws.proofs.lemmas.all_ins.LaterCards.{accepted_later}
use Rattle.hand_laws.proofs.all_ins.law_later_streets_know_cards.Goals as goal

pub returns : goal.returns
returns c = accepted_later c.law_places_are_apart.ensures c.law_cards_belong.ensures c.law_whole_boards.ensures c.law_a_table_shows_each_seat.ensures c.law_a_table_shows_dead_cards.ensures
