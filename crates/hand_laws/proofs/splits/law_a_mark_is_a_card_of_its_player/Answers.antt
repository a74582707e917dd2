use Rattle.hand_laws.proofs.lemmas.splits.MarkCards.{accepted_marks}
use Rattle.hand_laws.proofs.splits.law_a_mark_is_a_card_of_its_player.Goals as goal

pub returns : goal.returns
returns c = accepted_marks c.law_fives_have_five_cards.ensures c.law_places_are_apart.ensures c.law_cards_belong.ensures c.law_whole_boards.ensures c.law_a_table_shows_each_seat.ensures c.law_a_folded_player_is_eligible_nowhere.ensures
