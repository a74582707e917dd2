use Rattle.hand_laws.proofs.lemmas.all_ins.KnownCards.{accepted_knows}
use Rattle.hand_laws.proofs.all_ins.law_all_in_cards.Goals as goal

pub returns : goal.returns
returns c = accepted_knows c.law_places_are_apart.ensures c.law_cards_belong.ensures c.law_a_table_shows_each_seat.ensures c.law_a_table_shows_dead_cards.ensures
