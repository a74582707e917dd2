use Rattle.std.proofs.Common.{◌≡◌, ◌+◌, sym, ap, ◌∙◌, ◌&&◌, [], length, arith}
use Rattle.std.specs.Prelude.{min}
use Rattle.std.specs.List.{list_all}
use Rattle.spot_text.specs.Words.{words_left}
use Rattle.range_lines.specs.Hands.{is_range}
use Rattle.range_lines.specs.RangeSpot.{range_words}
use Rattle.range_lines.proofs.RangeWords.{ranges_end, ranges_all, ranges_dash, ranges_word}
use Rattle.range_lines.proofs.walks.count_ranges.Goals as goal

pub loop-word-init : goal.loop-word-init
loop-word-init c =
    let e : words_left c.into_iter-word-iterator.result ≡ words_left c.args.words = ap words_left c.into_iter-word-iterator.ensures.into_iter_gives in
    record {
      more = tt;
      ends = tt;
      room = c.requires.room;
      few = omega arith;
      ranges = ap (λ l. list_all is_range (range_words l)) e;
      counted = omega (arith, ap (λ l. length (range_words l)) e);
    }

pub returns-then-ends_hands-clause-value : goal.returns-then-ends_hands-clause-value
returns-then-ends_hands-clause-value c =
    let none : range_words (words_left c.loop-word.word-iterator) ≡ [] = ranges_end _ _ _ c.in-Some.ensures.steps (sym c.ends_hands.ensures ∙ c.if-ends_hands.true) in
    (sym c.loop-word.invariant.ranges ∙ ap (list_all is_range) none, omega (arith, c.loop-word.invariant.counted, c.loop-word.invariant.few, ap length none))

pub loop-word-preserved-then-is_dash : goal.loop-word-preserved-then-is_dash
loop-word-preserved-then-is_dash c =
    let step = ranges_dash _ _ _ c.in-Some.ensures.steps (sym c.ends_hands.ensures ∙ c.if-ends_hands.false) (sym c.is_dash.ensures ∙ c.if-is_dash.true) in
    record {
      more = tt;
      ends = tt;
      room = c.loop-word.invariant.room;
      few = c.loop-word.invariant.few;
      ranges = sym (ap (list_all is_range) step) ∙ c.loop-word.invariant.ranges;
      counted = sym (ap (λ ws. min 5 (c.loop-word.count + length ws)) step) ∙ c.loop-word.invariant.counted;
    }

pub returns-then-not-weigh-clause-value : goal.returns-then-not-weigh-clause-value
returns-then-not-weigh-clause-value c =
    let step = ranges_word _ _ _ c.in-Some.ensures.steps (sym c.ends_hands.ensures ∙ c.if-ends_hands.false) (sym c.is_dash.ensures ∙ c.if-is_dash.false) in
    sym c.loop-word.invariant.ranges ∙ ap (list_all is_range) step
    ∙ ap (λ b. b && list_all is_range (range_words (words_left c.next.new.self))) (sym c.weigh.ensures.value ∙ c.if-not-weigh.true)

pub loop-word-preserved : goal.loop-word-preserved
loop-word-preserved c =
    let step = ranges_word _ _ _ c.in-Some.ensures.steps (sym c.ends_hands.ensures ∙ c.if-ends_hands.false) (sym c.is_dash.ensures ∙ c.if-is_dash.false) in
    record {
      more = tt;
      ends = tt;
      room = c.weigh.ensures.room;
      few = omega (arith, c.min-count.ensures);
      ranges = sym (ap (list_all is_range) step ∙ ap (λ b. b && list_all is_range (range_words (words_left c.next.new.self))) (sym c.weigh.ensures.value ∙ c.if-not-weigh.false)) ∙ c.loop-word.invariant.ranges;
      counted = omega (arith, c.min-count.ensures, ap length step, c.loop-word.invariant.counted, c.loop-word.invariant.few);
    }

pub returns-clause-value : goal.returns-clause-value
returns-clause-value c =
    let none : range_words (words_left c.loop-word.word-iterator) ≡ [] = ranges_all _ c.in-None.ensures.steps.0 in
    (sym c.loop-word.invariant.ranges ∙ ap (list_all is_range) none, omega (arith, c.loop-word.invariant.counted, c.loop-word.invariant.few, ap length none))
