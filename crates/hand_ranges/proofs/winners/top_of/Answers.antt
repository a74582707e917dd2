use Rattle.std.proofs.Common.{◌∙◌, ap}
use Rattle.showdown_tally.specs.Settling.{number_of}
use Rattle.hand_ranges.proofs.FullBoards.{top_next}
use Rattle.hand_ranges.proofs.winners.top_of.Goals as goal

pub loop-hand-preserved : goal.loop-hand-preserved
loop-hand-preserved c = c.greater-top.ensures ∙ top_next c.args.values.now c.args.count c.loop-hand.hand c.loop-hand.top _ c.loop-hand-test.true c.loop-hand.invariant (ap (number_of c.args.values.now) c.from.ensures)
