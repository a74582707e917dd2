use Rattle.std.proofs.Common.{◌∙◌, sym}
use Rattle.spot_text.specs.Words.{words_left}
use Rattle.spot_text.proofs.CollectedParts.{table_is, own_fault, table_fault, count_fault, no_fault, keeps, within_two, parts_state, deck_short, deck_lasts, none_short, some_lasts}
use Rattle.spot_text.proofs.spot.known_of.Goals as goal

pub returns-then-not-parts-clause-read : goal.returns-then-not-parts-clause-read
returns-then-not-parts-clause-read c = own_fault _ (words_left c.args.words) c.args.parts.now (record { collected = c.requires.parts; once = c.in_default.is }) c.if-not-parts.true

pub returns-then-not-board_fits-clause-read : goal.returns-then-not-board_fits-clause-read
returns-then-not-board_fits-clause-read c =
    table_fault _ (words_left c.args.words) c.args.parts.now (record { collected = c.requires.parts; once = c.in_default.is }) c.if-not-parts.false
    (table_is c.args.game c.args.parts.now _ _ _ c.count.ensures.value c.board_fits.ensures c.if-not-board_fits.true)

pub returns-then-not-players_within-clause-read : goal.returns-then-not-players_within-clause-read
returns-then-not-players_within-clause-read c =
    count_fault _ (words_left c.args.words) c.args.parts.now (record { collected = c.requires.parts; once = c.in_default.is }) c.if-not-parts.false
    (table_is c.args.game c.args.parts.now _ _ _ c.count.ensures.value c.board_fits.ensures c.if-not-board_fits.false) (sym c.players_within.ensures ∙ c.if-not-players_within.true)

pub invariant_of-known : goal.invariant_of-known
invariant_of-known c =
    let kept = keeps c.args.game (words_left c.args.words) c.args.parts.now (record { collected = c.requires.parts; once = c.in_default.is }) c.if-not-parts.false
    (table_is c.args.game c.args.parts.now _ _ _ c.count.ensures.value c.board_fits.ensures c.if-not-board_fits.false) (sym c.players_within.ensures ∙ c.if-not-players_within.false) in
    record { few = kept.few; disjoint = kept.disjoint; unused = kept.unused; fitting = kept.fitting }

pub returns-then-is_none-clause-read : goal.returns-then-is_none-clause-read
returns-then-is_none-clause-read c =
    no_fault _ (words_left c.args.words) c.args.parts.now (record { collected = c.requires.parts; once = c.in_default.is }) c.if-not-parts.false
    (table_is c.args.game c.args.parts.now _ _ _ c.count.ensures.value c.board_fits.ensures c.if-not-board_fits.false) (sym c.players_within.ensures ∙ c.if-not-players_within.false)
    ∙ deck_short (parts_state c.args.game c.args.parts.now) (none_short _ _ _ c.shape.ensures.none c.if-is_none.ensures)

pub returns-clause-read : goal.returns-clause-read
returns-clause-read c =
    no_fault _ (words_left c.args.words) c.args.parts.now (record { collected = c.requires.parts; once = c.in_default.is }) c.if-not-parts.false
    (table_is c.args.game c.args.parts.now _ _ _ c.count.ensures.value c.board_fits.ensures c.if-not-board_fits.false) (sym c.players_within.ensures ∙ c.if-not-players_within.false)
    ∙ deck_lasts (parts_state c.args.game c.args.parts.now) (some_lasts _ _ _ c.shape.ensures.none c.if-is_none.ensures)

pub returns-clause-players : goal.returns-clause-players
returns-clause-players c = within_two 10 c.args.parts.now.hands.count (sym c.players_within.ensures ∙ c.if-not-players_within.false)
