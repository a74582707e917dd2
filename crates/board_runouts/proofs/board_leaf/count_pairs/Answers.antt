use Rattle.std.proofs.Common.{arith}
use Rattle.board_runouts.proofs.FrontFacts.{add_next, item_at, room_next, runout_at}
use Rattle.board_runouts.proofs.board_leaf.count_pairs.Goals as goal

pub count_pair-requires-clause-member : goal.count_pair-requires-clause-member
count_pair-requires-clause-member g c = runout_at c.args.front.now c.args.pairs.now c.loop-pair.pair-index c.pair-item.result c.requires.pairs (item_at c.args.pairs.now c.loop-pair.pair-index c.pair-item.result c.loop-pair-test.true c.pair-item.is)

pub count_pair-requires-clause-room : goal.count_pair-requires-clause-room
count_pair-requires-clause-room g c = room_next c.args.front.now c.args.pairs.now c.loop-pair.pair-index c.args.counts.now c.loop-pair.counts c.requires.room c.loop-pair-test.true c.loop-pair.invariant.grown

pub loop-pair-preserved : goal.loop-pair-preserved
loop-pair-preserved g c =
    let was = c.loop-pair.invariant in
    let new = c.count_pair in
    record {
      grown = add_next c.args.front.now c.args.pairs.now c.loop-pair.pair-index _ c.pair-item.result c.args.counts.now c.loop-pair.counts new.new.counts (omega arith) (item_at c.args.pairs.now c.loop-pair.pair-index c.pair-item.result c.loop-pair-test.true c.pair-item.is) was.grown new.ensures.counts;
      flushes = new.ensures.flushes;
      steps = (let s = was.steps in omega (arith, c.tick.ensures));
    }
