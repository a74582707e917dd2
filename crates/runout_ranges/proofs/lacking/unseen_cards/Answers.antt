use Rattle.std.proofs.Common.{take}
use Rattle.runout_ranges.proofs.LackingCards.{none_dealt, one_more_dealt}
use Rattle.runout_ranges.proofs.lacking.unseen_cards.Goals as goal

pub loop-hand-init : goal.loop-hand-init
loop-hand-init c = none_dealt c.args.known.now.board c.args.known.now.dead c.deck.result c.minus.result c.minus-unseen.result c.deck.ensures c.minus.ensures.value c.minus-unseen.ensures.value

pub loop-hand-preserved : goal.loop-hand-preserved
loop-hand-preserved c =
    one_more_dealt c.args.known.now.board c.args.known.now.dead c.hand-item.result c.loop-hand.unseen c.minus-unseen-in-loop-hand.result (take c.args.known.now.count c.args.known.now.hands) c.loop-hand.hand-index c.loop-hand-test.true c.hand-item.is c.loop-hand.invariant c.minus-unseen-in-loop-hand.ensures.value
