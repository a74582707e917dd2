use Rattle.std.proofs.Common.{◌≡◌, ℕ, List}
use Rattle.spot_text.specs.Words.{words_left}
use Rattle.spot_text.specs.Parts.{cards_of}
use Rattle.spot_text.specs.Fronts.{front_cards, from_mark}
use Rattle.spot_text.specs.Collected.{IsSeen}
use Rattle.spot_text.proofs.CardsByWord.{Gathered}
use Rattle.spot_text.proofs.walk.read_part.Given as goal

abbrev pub invariant-loop-word : goal.invariant-loop-word
invariant-loop-word l = record {
  more : (goal.iterator-loop-word).can_next l.words;
  ends : (goal.iterator-loop-word).is_finite l.words;
  cards : Gathered l.cards (cards_of (front_cards (words_left l.words))) (cards_of (front_cards (words_left l.fn.words)));
  mark : from_mark (words_left l.words) ≡ from_mark (words_left l.fn.words);
  seen : (all : List ℕ) → IsSeen l.fn.seen (cards_of (words_left l.fn.words)) all → IsSeen l.seen (cards_of (words_left l.words)) all;
}
