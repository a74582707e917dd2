use Rattle.std.proofs.Common.{arith}
use Rattle.draw_runouts.proofs.DrawPairs.{pairs_all, pairs_more, pairs_room}
use Rattle.draw_runouts.proofs.pairs.compare_both.Goals as goal

pub add_pair-requires-clause-room : goal.add_pair-requires-clause-room
add_pair-requires-clause-room g c = pairs_room c.args.highs.now c.args.lows.now c.args.pots c.args.values.now c.args.low_values.now c.loop-place.place c.loop-place.sums c.requires.pots c.loop-place-test.true c.requires.few c.loop-place.invariant.sums

pub loop-place-preserved : goal.loop-place-preserved
loop-place-preserved g c =
    let was = c.loop-place.invariant in
    record {
      sums = pairs_more c.args.highs.now c.args.lows.now c.args.pots c.args.values.now c.args.low_values.now c.loop-place.place c.loop-place.sums c.add_pair.new.sums c.loop-place-test.true c.requires.each was.sums c.add_pair.ensures;
      steps = (let s = was.steps in omega (arith, c.tick.ensures));
    }

pub returns-clause-sums : goal.returns-clause-sums
returns-clause-sums g c = pairs_all c.args.highs.now c.args.lows.now c.args.pots c.args.values.now c.args.low_values.now c.loop-place.place c.loop-place.sums c.loop-place-test.false c.requires.each c.loop-place.invariant.sums
