use Rattle.std.specs.Prelude.{◌≡◌, ◌*◌, ◌++◌, length, map, true}
use Rattle.std.specs.List.{list_all}
use Rattle.spot_text.specs.Words.{words_left}
use Rattle.range_lines.specs.Hands.{is_range, hands_of}
use Rattle.range_lines.specs.RangeSpot.{range_words}
use Rattle.range_lines.proofs.walks.ranges_of.Given as goal

abbrev pub invariant-loop-word : goal.invariant-loop-word
invariant-loop-word l = record {
  more : (goal.iterator-loop-word).can_next l.word-iterator;
  ends : (goal.iterator-loop-word).is_finite l.word-iterator;
  room : length l.cells ≡ 52 * 52;
  all : list_all is_range (range_words (words_left l.word-iterator)) ≡ true;
  made : l.ranges.items ++ map (hands_of l.fn.board l.fn.dead) (range_words (words_left l.word-iterator)) ≡ map (hands_of l.fn.board l.fn.dead) (range_words (words_left l.fn.words));
}
