use Rattle.std.proofs.Common.{◌∙◌, arith}
use Rattle.made_hands.proofs.NumberedHands.{next_hand, all_hands}
use Rattle.made_hands.proofs.hands.made_input.Goals as goal

pub loop-index-preserved : goal.loop-index-preserved
loop-index-preserved c =
    let was = c.loop-index.text.items in
    let index = c.loop-index.index in
    next_hand was c.write_hand.new.out.items c.args.hands index c.loop-index.generator.state c.draw-deal.new.generator.state (omega arith)
    (rw (c.from.ensures, c.draw-deal.ensures.deal) at c.in_ok-write_hand.ensures)
    c.draw-deal.ensures.state
    ∙ c.loop-index.invariant

pub returns : goal.returns
returns c = record { made = all_hands _ _ _ _ _ (omega arith) c.loop-index.invariant }
