use Rattle.std.specs.Prelude.{◌≡◌, ◌*◌, ◌+◌, ◌≤◌, length, min}
use Rattle.std.specs.List.{list_all}
use Rattle.spot_text.specs.Words.{words_left}
use Rattle.range_lines.specs.Hands.{is_range}
use Rattle.range_lines.specs.RangeSpot.{range_words}
use Rattle.range_lines.proofs.walks.count_ranges.Given as goal

abbrev pub invariant-loop-word : goal.invariant-loop-word
invariant-loop-word l = record {
  more : (goal.iterator-loop-word).can_next l.word-iterator;
  ends : (goal.iterator-loop-word).is_finite l.word-iterator;
  room : length l.cells ≡ 52 * 52;
  few : l.count ≤ 5;
  ranges : list_all is_range (range_words (words_left l.word-iterator)) ≡ list_all is_range (range_words (words_left l.fn.words));
  counted : min 5 (l.count + length (range_words (words_left l.word-iterator))) ≡ min 5 (length (range_words (words_left l.fn.words)));
}
