use Rattle.board_runouts.proofs.FrontFacts.{item_at, runout_at}
use Rattle.board_runouts.proofs.board_leaf.count_one_pot.Goals as goal

pub one_place-place-requires-clause-member : goal.one_place-place-requires-clause-member
one_place-place-requires-clause-member g c = runout_at c.args.front.now c.args.pairs.now c.loop-pair.pair-index c.pair-item.result c.requires.pairs (item_at c.args.pairs.now c.loop-pair.pair-index c.pair-item.result c.loop-pair-test.true c.pair-item.is)
