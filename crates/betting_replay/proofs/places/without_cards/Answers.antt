use Rattle.card_sets.proofs.CallerLemmas.{minus_next}
use Rattle.betting_replay.proofs.places.without_cards.Goals as goal

pub loop-card-preserved : goal.loop-card-preserved
loop-card-preserved c = rw c.without-left.ensures (minus_next _ _ _ _ _ c.loop-card.invariant c.loop-card-test.true c.card-item.is)
