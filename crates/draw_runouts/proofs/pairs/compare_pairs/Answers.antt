use Rattle.std.proofs.Common.{◌≤◌, arith}
use Rattle.draw_runouts.proofs.DrawPairs.{pairs_fewer}
use Rattle.draw_runouts.proofs.pairs.compare_pairs.Goals as goal

pub returns-then-pots-eq1-clause-sums : goal.returns-then-pots-eq1-clause-sums
returns-then-pots-eq1-clause-sums g c = pairs_fewer c.args.highs.now c.args.lows.now 1 c.args.pots c.args.values.now c.args.low_values.now c.compare_both.result (let few : c.args.pots ≤ 1 = (let t = c.if-pots-eq1.true in omega arith) in few) c.compare_both.ensures.sums

pub returns-then-pots-eq2-clause-sums : goal.returns-then-pots-eq2-clause-sums
returns-then-pots-eq2-clause-sums g c =
    pairs_fewer c.args.highs.now c.args.lows.now 2 c.args.pots c.args.values.now c.args.low_values.now c.compare_both-then-pots-eq2.result (let few : c.args.pots ≤ 2 = (let t = c.if-pots-eq2.true in omega arith) in few) c.compare_both-then-pots-eq2.ensures.sums

pub returns-then-pots-eq3-clause-sums : goal.returns-then-pots-eq3-clause-sums
returns-then-pots-eq3-clause-sums g c =
    pairs_fewer c.args.highs.now c.args.lows.now 3 c.args.pots c.args.values.now c.args.low_values.now c.compare_both-then-pots-eq3.result (let few : c.args.pots ≤ 3 = (let t = c.if-pots-eq3.true in omega arith) in few) c.compare_both-then-pots-eq3.ensures.sums
