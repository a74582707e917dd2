use Rattle.std.proofs.Common.{◌≡◌}
use Rattle.std.specs.List.{list_all}
use Rattle.spot_text.specs.Words.{words_left}
use Rattle.spot_text.specs.Parts.{hand_words, board_words, dead_words}
use Rattle.range_lines.specs.RangeSpot.{is_one_word}
use Rattle.range_lines.proofs.OneWord.{one_from}
use Rattle.range_lines.proofs.walks.behind_ranges.Given as goal

abbrev pub invariant-loop-word : goal.invariant-loop-word
invariant-loop-word l = record {
  more : (goal.iterator-loop-word).can_next l.word-iterator;
  ends : (goal.iterator-loop-word).is_finite l.word-iterator;
  left : words_left l.others ≡ words_left l.word-iterator;
  board : board_words (words_left l.word-iterator) ≡ board_words (words_left l.fn.words);
  dead : dead_words (words_left l.word-iterator) ≡ dead_words (words_left l.fn.words);
  one : one_from l.full (hand_words (words_left l.word-iterator)) ≡ list_all is_one_word (hand_words (words_left l.fn.words));
}
