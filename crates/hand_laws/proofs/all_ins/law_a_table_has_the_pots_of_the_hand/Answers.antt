use Rattle.hand_laws.proofs.lemmas.all_ins.TablePots.{accepted_pots}
use Rattle.hand_laws.proofs.all_ins.law_a_table_has_the_pots_of_the_hand.Goals as goal

pub returns : goal.returns
returns c = accepted_pots
