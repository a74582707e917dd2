use Rattle.std.proofs.Common.{◌-◌, ◌+◌, ap, ◌∙◌, length, arith}
use Rattle.card_sets.specs.Games.{own_size, board_size}
use Rattle.runout_ranges.specs.Slots.{slot_of}
use Rattle.runout_ranges.specs.declared.shapes.Receiver.TheVariants.{Board, Hand}
use Rattle.runout_ranges.proofs.LackingCards.{lacks_more, few_more}
use Rattle.runout_ranges.proofs.lacking.lacking.Goals as goal

pub loop-number-preserved : goal.loop-number-preserved
loop-number-preserved c =
    let known = c.args.known.now in
    let size = own_size known.game in
    record {
      slots = lacks_more (slot_of Board (board_size known.game - length known.board)) c.loop-number.lacking c.add-in-loop-number.new.self size c.saturating_sub-lacks.result c.count-in-loop-number.result c.loop-number.number known.hands _ (omega arith) c.count-in-loop-number.ensures.value (c.saturating_sub-lacks.ensures ∙ ap (λ n. n - c.count-in-loop-number.result) c.own_size-full.ensures.value) c.loop-number.invariant.slots c.add-in-loop-number.ensures;
      few = few_more c.loop-number.lacking c.add-in-loop-number.new.self (Hand c.loop-number.number) c.saturating_sub-lacks.result (c.loop-number.number + 1) c.loop-number.invariant.few c.add-in-loop-number.ensures;
    }
