use Rattle.std.proofs.Common.{◌≡◌, false, sym, ap, ◌∙◌}
use Rattle.spot_text.specs.Words.{words_left}
use Rattle.spot_text.specs.Parts.{hand_words, board_words, dead_words}
use Rattle.spot_text.proofs.CallerLemmas.{none_first, some_hand, hands_end}
use Rattle.range_lines.proofs.OneWord.{one_from, one_all, one_end, one_none, one_step, one_not, table_later}
use Rattle.range_lines.proofs.CopiedWords.{step_same, are_same, are_other}
use Rattle.range_lines.proofs.walks.behind_ranges.Goals as goal

pub loop-word-init : goal.loop-word-init
loop-word-init c =
    let e : words_left c.into_iter-word-iterator.result ≡ words_left c.args.words = ap words_left c.into_iter-word-iterator.ensures.into_iter_gives in
    record { more = tt; ends = tt; left = sym e; board = ap board_words e; dead = ap dead_words e; one = ap (λ l. one_from false (hand_words l)) e ∙ one_all _ (some_hand (words_left c.args.words)) }

pub returns-then-full : goal.returns-then-full
returns-then-full c =
    let left = c.loop-word.invariant.left in
    record {
      one = sym (sym c.if-full.true ∙ sym (one_end c.loop-word.full _ _ (sym c.ends_hands.ensures ∙ c.if-ends_hands.true))
          ∙ ap (λ l. one_from c.loop-word.full (hand_words l)) (sym c.in-Some.ensures.steps) ∙ c.loop-word.invariant.one);
      hands = ap hand_words (left ∙ c.in-Some.ensures.steps) ∙ hands_end _ _ (sym c.ends_hands.ensures ∙ c.if-ends_hands.true);
      board = ap board_words left ∙ c.loop-word.invariant.board;
      dead = ap dead_words left ∙ c.loop-word.invariant.dead;
    }

pub returns-else-full : goal.returns-else-full
returns-else-full c =
    sym (sym c.if-full.false ∙ sym (one_end c.loop-word.full _ _ (sym c.ends_hands.ensures ∙ c.if-ends_hands.true))
    ∙ ap (λ l. one_from c.loop-word.full (hand_words l)) (sym c.in-Some.ensures.steps) ∙ c.loop-word.invariant.one)

pub returns-then-full-2 : goal.returns-then-full-2
returns-then-full-2 c =
    let left = c.loop-word.invariant.left in
    record {
      one = sym (sym c.if-full-2.true ∙ sym (one_none c.loop-word.full) ∙ ap (λ l. one_from c.loop-word.full (hand_words l)) (sym c.in-None.ensures.steps.0) ∙ c.loop-word.invariant.one);
      hands = ap hand_words (left ∙ c.in-None.ensures.steps.0) ∙ none_first.0;
      board = ap board_words left ∙ c.loop-word.invariant.board;
      dead = ap dead_words left ∙ c.loop-word.invariant.dead;
    }

pub returns-else-full-2 : goal.returns-else-full-2
returns-else-full-2 c =
    sym (sym c.if-full-2.false ∙ sym (one_none c.loop-word.full) ∙ ap (λ l. one_from c.loop-word.full (hand_words l)) (sym c.in-None.ensures.steps.0) ∙ c.loop-word.invariant.one)

pub loop-word-preserved : goal.loop-word-preserved
loop-word-preserved c =
    let later = table_later _ _ (sym c.ends_hands.ensures ∙ c.if-ends_hands.false) in
    let same : words_left c.next-word.new.self ≡ words_left c.next.new.self = step_same c.loop-word.others c.next-word.new.self c.next-word.result _ _ c.next-word.ensures.steps (c.loop-word.invariant.left ∙ c.in-Some.ensures.steps) in
    record {
      more = tt;
      ends = tt;
      left = same;
      board = sym later.0 ∙ ap board_words (sym c.in-Some.ensures.steps) ∙ c.loop-word.invariant.board;
      dead = sym later.1 ∙ ap dead_words (sym c.in-Some.ensures.steps) ∙ c.loop-word.invariant.dead;
      one = sym (one_step c.loop-word.full _ _ (sym c.ends_hands.ensures ∙ c.if-ends_hands.false) (sym c.is_dash.ensures ∙ are_same _ _ c.if-is_dash-full.false))
          ∙ ap (λ l. one_from c.loop-word.full (hand_words l)) (sym c.in-Some.ensures.steps) ∙ c.loop-word.invariant.one;
    }

pub returns-then-is_dash-full : goal.returns-then-is_dash-full
returns-then-is_dash-full c =
    sym (sym (one_not c.loop-word.full _ _ (sym c.ends_hands.ensures ∙ c.if-ends_hands.false) (sym c.is_dash.ensures ∙ are_other _ _ c.if-is_dash-full.true))
    ∙ ap (λ l. one_from c.loop-word.full (hand_words l)) (sym c.in-Some.ensures.steps) ∙ c.loop-word.invariant.one)
