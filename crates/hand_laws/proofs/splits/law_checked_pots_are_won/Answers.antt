use Rattle.hand_laws.proofs.lemmas.splits.PotsWon.{accepted_won}
use Rattle.hand_laws.proofs.splits.law_checked_pots_are_won.Goals as goal

pub returns : goal.returns
returns c = accepted_won c.law_values_keep_order.ensures c.law_places_are_apart.ensures c.law_cards_belong.ensures c.law_whole_boards.ensures c.law_a_table_shows_each_seat.ensures c.law_a_folded_player_is_eligible_nowhere.ensures
