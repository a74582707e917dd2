use Rattle.std.specs.Prelude.{length}
use Rattle.card_sets.proofs.known_cards.+apart_from_all.Given as goal

abbrev pub decreases-apart_from_all : goal.decreases-apart_from_all
decreases-apart_from_all l = length l.sets.now
