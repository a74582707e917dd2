use Rattle.hand_laws.proofs.lemmas.dues.DueSums.{accepted_dues}
use Rattle.hand_laws.proofs.sums.law_dues_add_up_to_what_was_paid.Goals as goal

pub returns : goal.returns
returns c = accepted_dues c.law_a_list_orders_its_seats.ensures c.law_values_keep_order.ensures c.law_fives_have_five_cards.ensures c.law_places_are_apart.ensures c.law_cards_belong.ensures c.law_whole_boards.ensures c.law_a_table_shows_each_seat.ensures c.law_a_folded_player_is_eligible_nowhere.ensures
