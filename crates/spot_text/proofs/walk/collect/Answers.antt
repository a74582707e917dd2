use Rattle.std.proofs.Common.{◌≡◌, ◌∙◌, sym}
use Rattle.spot_text.specs.declared.walk.Mark.TheVariants.{Dash}
use Rattle.spot_text.specs.Words.{words_left}
use Rattle.spot_text.specs.Fronts.{from_mark, mark_of}
use Rattle.spot_text.proofs.FrontsByWord.{dash_left}
use Rattle.spot_text.proofs.HandsByPart.{hands_begin, hands_more, fewer_left, all_read}
use Rattle.spot_text.proofs.walk.collect.Goals as goal

pub loop-game-init : goal.loop-game-init
loop-game-init c = record { parts = hands_begin c.args.game _ _ (c.none-hands.ensures c.args.game); seen = c.none-seen.ensures _ }

pub loop-game-preserved : goal.loop-game-preserved
loop-game-preserved c =
    let left = words_left c.loop-game.left in
    let dash : mark_of (from_mark left) ≡ Dash =
    sym c.read_part-part.ensures.mark ∙ dash_left c.read_part-part.result.mark (sym c.ends_hands.ensures ∙ c.if-ends_hands.false) in
    record {
      parts = hands_more c.args.game _ left _ _ _ _ c.loop-game.invariant.parts c.add_hand.ensures c.read_part-part.ensures.cards dash c.read_part-part.ensures.rest;
      seen = c.read_part-part.ensures.seen _ c.loop-game.invariant.seen;
    }

pub loop-game-smaller : goal.loop-game-smaller
loop-game-smaller c =
    let left = words_left c.loop-game.left in
    let dash : mark_of (from_mark left) ≡ Dash =
    sym c.read_part-part.ensures.mark ∙ dash_left c.read_part-part.result.mark (sym c.ends_hands.ensures ∙ c.if-ends_hands.false) in
    fewer_left left _ dash c.read_part-part.ensures.rest

pub returns-then-ends_hands : goal.returns-then-ends_hands
returns-then-ends_hands c =
    let left = words_left c.loop-game.left in
    let table = c.in-Some.ensures.table left c.read_part-part.ensures.mark c.read_part-part.ensures.rest in
    let all = all_read c.args.game _ left _ _ _ _ c.loop-game.invariant.parts c.add_hand.ensures c.read_part-part.ensures.cards table in
    record {
      form = all.form;
      hands = all.hands;
      board = all.board;
      dead = all.dead;
      twice = c.in-Some.ensures.twice left _ c.read_part-part.ensures.mark c.read_part-part.ensures.rest
          (c.read_part-part.ensures.seen _ c.loop-game.invariant.seen);
    }
