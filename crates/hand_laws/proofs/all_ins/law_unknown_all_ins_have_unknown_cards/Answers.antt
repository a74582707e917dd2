use Rattle.hand_laws.proofs.lemmas.all_ins.UnknownCards.{accepted_unknown}
use Rattle.hand_laws.proofs.all_ins.law_unknown_all_ins_have_unknown_cards.Goals as goal

pub returns : goal.returns
returns c = accepted_unknown c.law_places_are_apart.ensures c.law_cards_belong.ensures c.law_whole_boards.ensures c.law_a_table_shows_each_seat.ensures c.law_a_table_shows_dead_cards.ensures
