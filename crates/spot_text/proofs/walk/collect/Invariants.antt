use Rattle.std.proofs.Common.{length}
use Rattle.spot_text.specs.Words.{words_left}
use Rattle.spot_text.specs.Parts.{hand_words, cards_of}
use Rattle.spot_text.specs.Collected.{IsSeen}
use Rattle.spot_text.proofs.HandsByPart.{HandsLeft}
use Rattle.spot_text.proofs.walk.collect.Given as goal

abbrev pub invariant-loop-game : goal.invariant-loop-game
invariant-loop-game l = record {
  parts : HandsLeft l.fn.game (words_left l.fn.words) (words_left l.left) l.hands;
  seen : IsSeen l.seen (cards_of (words_left l.left)) (cards_of (words_left l.fn.words));
}

abbrev pub decreases-loop-game : goal.decreases-loop-game
decreases-loop-game l = length (hand_words (words_left l.left))
