use Rattle.std.proofs.Common.{sym, ap, ◌∙◌, rules}
use Rattle.std.proofs.lemmas.Result.{err_from_is_err_and}
use Rattle.card_sets.specs.declared.games.Game.TheVariants.{Holdem}
use Rattle.spot_text.specs.Games.{board_fits}
use Rattle.spot_text.specs.Words.{words_left}
use Rattle.range_lines.proofs.LineTests.{Passed, Sized, passed_twice, passed_board, sized_count, last_test, sized_short, sized_ok}
use Rattle.range_lines.proofs.read.read_ranges.Goals as goal

pub returns-in-Some-twice : goal.returns-in-Some-twice
returns-in-Some-twice c =
    let passed : Passed c.args.line.now c.in-Some.word.now (words_left c.next.new.self) (words_left c.in-Some-behind_ranges.others) c.in-Some-collect.table = record {
      first = sym c.of-words.ensures ∙ c.in-Some.ensures.steps;
      game = search rules;
      behind = c.in-Some-behind_ranges.ensures;
      collected = c.in-Some-collect.ensures;
      ranges = c.in-Some-count_ranges.ensures.value.0;
    } in
    passed_twice _ _ _ _ _ c.in-Some-twice.card passed c.in-Some-twice.is

pub returns-then-not-board_fits : goal.returns-then-not-board_fits
returns-then-not-board_fits c =
    let passed : Passed c.args.line.now c.in-Some.word.now (words_left c.next.new.self) (words_left c.in-Some-behind_ranges.others) c.in-Some-collect.table = record {
      first = sym c.of-words.ensures ∙ c.in-Some.ensures.steps;
      game = search rules;
      behind = c.in-Some-behind_ranges.ensures;
      collected = c.in-Some-collect.ensures;
      ranges = c.in-Some-count_ranges.ensures.value.0;
    } in
    passed_board _ _ _ _ _ passed c.in_default-twice.is (ap (board_fits Holdem) (sym c.count.ensures.value) ∙ sym c.board_fits.ensures ∙ c.if-not-board_fits.true)

pub returns-then-not-players_within : goal.returns-then-not-players_within
returns-then-not-players_within c =
    let passed : Passed c.args.line.now c.in-Some.word.now (words_left c.next.new.self) (words_left c.in-Some-behind_ranges.others) c.in-Some-collect.table = record {
      first = sym c.of-words.ensures ∙ c.in-Some.ensures.steps;
      game = search rules;
      behind = c.in-Some-behind_ranges.ensures;
      collected = c.in-Some-collect.ensures;
      ranges = c.in-Some-count_ranges.ensures.value.0;
    } in
    let sized : Sized c.args.line.now c.in-Some.word.now (words_left c.next.new.self) (words_left c.in-Some-behind_ranges.others) c.in-Some-collect.table c.in-Some-count_ranges.count = record {
      passed = passed;
      once = c.in_default-twice.is;
      fits = ap (board_fits Holdem) (sym c.count.ensures.value) ∙ sym c.board_fits.ensures ∙ c.if-not-board_fits.false;
      counted = c.in-Some-count_ranges.ensures.value.1;
    } in
    sized_count _ _ _ _ _ _ sized (sym c.players_within.ensures ∙ c.if-not-players_within.true)

pub returns-then-is_dealt_out : goal.returns-then-is_dealt_out
returns-then-is_dealt_out c =
    let passed : Passed c.args.line.now c.in-Some.word.now (words_left c.next.new.self) (words_left c.in-Some-behind_ranges.others) c.in-Some-collect.table = record {
      first = sym c.of-words.ensures ∙ c.in-Some.ensures.steps;
      game = search rules;
      behind = c.in-Some-behind_ranges.ensures;
      collected = c.in-Some-collect.ensures;
      ranges = c.in-Some-count_ranges.ensures.value.0;
    } in
    let sized : Sized c.args.line.now c.in-Some.word.now (words_left c.next.new.self) (words_left c.in-Some-behind_ranges.others) c.in-Some-collect.table c.in-Some-count_ranges.count = record {
      passed = passed;
      once = c.in_default-twice.is;
      fits = ap (board_fits Holdem) (sym c.count.ensures.value) ∙ sym c.board_fits.ensures ∙ c.if-not-board_fits.false;
      counted = c.in-Some-count_ranges.ensures.value.1;
    } in
    sized_short _ _ _ _ _ _ sized (sym c.players_within.ensures ∙ c.if-not-players_within.false)
    (last_test _ _ _ _ _ _ c.count-2.ensures.value c.count-3.ensures.value c.is_dealt_out.ensures ∙ c.if-is_dealt_out.true)

pub returns-in_err-ranges : goal.returns-in_err-ranges
returns-in_err-ranges c = let p = err_from_is_err_and c.from_residual.result c.from_residual.ensures.1 in rw (p.1, p.2) tt

pub returns : goal.returns
returns c =
    let passed : Passed c.args.line.now c.in-Some.word.now (words_left c.next.new.self) (words_left c.in-Some-behind_ranges.others) c.in-Some-collect.table = record {
      first = sym c.of-words.ensures ∙ c.in-Some.ensures.steps;
      game = search rules;
      behind = c.in-Some-behind_ranges.ensures;
      collected = c.in-Some-collect.ensures;
      ranges = c.in-Some-count_ranges.ensures.value.0;
    } in
    let sized : Sized c.args.line.now c.in-Some.word.now (words_left c.next.new.self) (words_left c.in-Some-behind_ranges.others) c.in-Some-collect.table c.in-Some-count_ranges.count = record {
      passed = passed;
      once = c.in_default-twice.is;
      fits = ap (board_fits Holdem) (sym c.count.ensures.value) ∙ sym c.board_fits.ensures ∙ c.if-not-board_fits.false;
      counted = c.in-Some-count_ranges.ensures.value.1;
    } in
    sized_ok _ _ _ _ _ _ c.in_ok-ranges.ranges.items sized (sym c.players_within.ensures ∙ c.if-not-players_within.false)
    (last_test _ _ _ _ _ _ c.count-2.ensures.value c.count-3.ensures.value c.is_dealt_out.ensures ∙ c.if-is_dealt_out.false) c.in_ok-ranges.ensures
