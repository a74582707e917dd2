use Rattle.std.specs.Prelude.{length}
use Rattle.card_sets.proofs.known_cards.+all_apart.Given as goal

abbrev pub decreases-all_apart : goal.decreases-all_apart
decreases-all_apart l = length l.sets.now
