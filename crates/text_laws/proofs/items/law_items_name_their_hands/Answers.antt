use Rattle.text_laws.proofs.NamedHands.{one_hand, turned_hands, pair_hands, pairs_hands, suited_hands, offsuit_hands, any_hands, suited_from_hands, offsuit_from_hands, any_from_hands, next_hands, weights_hands}
use Rattle.text_laws.proofs.items.law_items_name_their_hands.Goals as goal

pub returns-clause-hand : goal.returns-clause-hand
returns-clause-hand c = one_hand

pub returns-clause-turned : goal.returns-clause-turned
returns-clause-turned c = turned_hands

pub returns-clause-pair : goal.returns-clause-pair
returns-clause-pair c = pair_hands

pub returns-clause-pairs : goal.returns-clause-pairs
returns-clause-pairs c = pairs_hands

pub returns-clause-suited : goal.returns-clause-suited
returns-clause-suited c = suited_hands

pub returns-clause-offsuit : goal.returns-clause-offsuit
returns-clause-offsuit c = offsuit_hands

pub returns-clause-any : goal.returns-clause-any
returns-clause-any c = any_hands

pub returns-clause-suited_from : goal.returns-clause-suited_from
returns-clause-suited_from c = suited_from_hands

pub returns-clause-offsuit_from : goal.returns-clause-offsuit_from
returns-clause-offsuit_from c = offsuit_from_hands

pub returns-clause-any_from : goal.returns-clause-any_from
returns-clause-any_from c = any_from_hands

pub returns-clause-next : goal.returns-clause-next
returns-clause-next c = next_hands

pub returns-clause-weights : goal.returns-clause-weights
returns-clause-weights c = weights_hands
