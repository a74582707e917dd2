use Rattle.betting_replay.specs.Faults.{out_of_turn, nothing_owed, street_early}
use Rattle.betting_replay.specs.TableAfter.{table_of}
use Rattle.hand_events.specs.declared.events.Event.TheVariants.{Act, Street}
use Rattle.betting_replay.proofs.CallerLemmas.{not_not, passed, not_failed, none_told}
use Rattle.hand_laws.proofs.turns.law_turns_are_taken.Goals as goal

pub returns : goal.returns
unfolding out_of_turn nothing_owed street_early
returns c = record {
  acts = (λ header players h seat act all_in shown ok. record {
    may = not_not _ (not_failed _ _ (passed (table_of header players h) (Act seat act all_in shown) ok).owed);
    first = none_told _ _ (passed (table_of header players h) (Act seat act all_in shown) ok).in_turn;
  });
  streets = (λ header players h street number cards ok. none_told _ _ (passed (table_of header players h) (Street street number cards) ok).early);
}
