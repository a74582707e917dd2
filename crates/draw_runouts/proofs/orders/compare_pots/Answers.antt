use Rattle.std.proofs.Common.{◌≤◌, arith}
use Rattle.draw_runouts.specs.LastHand.{is_least, is_most}
use Rattle.draw_runouts.proofs.DrawOrders.{sums_fewer}
use Rattle.draw_runouts.proofs.orders.compare_pots.Goals as goal

pub returns-then-pots-eq1-clause-at_most : goal.returns-then-pots-eq1-clause-at_most
returns-then-pots-eq1-clause-at_most g c = sums_fewer (is_most c.args.rivals.now) 1 c.args.pots c.args.values.now c.compare.result.at_most (let few : c.args.pots ≤ 1 = (let t = c.if-pots-eq1.true in omega arith) in few) c.compare.ensures.at_most

pub returns-then-pots-eq1-clause-at_least : goal.returns-then-pots-eq1-clause-at_least
returns-then-pots-eq1-clause-at_least g c = sums_fewer (is_least c.args.rivals.now) 1 c.args.pots c.args.values.now c.compare.result.at_least (let few : c.args.pots ≤ 1 = (let t = c.if-pots-eq1.true in omega arith) in few) c.compare.ensures.at_least

pub returns-then-pots-eq2-clause-at_most : goal.returns-then-pots-eq2-clause-at_most
returns-then-pots-eq2-clause-at_most g c = sums_fewer (is_most c.args.rivals.now) 2 c.args.pots c.args.values.now c.compare-then-pots-eq2.result.at_most (let few : c.args.pots ≤ 2 = (let t = c.if-pots-eq2.true in omega arith) in few) c.compare-then-pots-eq2.ensures.at_most

pub returns-then-pots-eq2-clause-at_least : goal.returns-then-pots-eq2-clause-at_least
returns-then-pots-eq2-clause-at_least g c = sums_fewer (is_least c.args.rivals.now) 2 c.args.pots c.args.values.now c.compare-then-pots-eq2.result.at_least (let few : c.args.pots ≤ 2 = (let t = c.if-pots-eq2.true in omega arith) in few) c.compare-then-pots-eq2.ensures.at_least

pub returns-then-pots-eq3-clause-at_most : goal.returns-then-pots-eq3-clause-at_most
returns-then-pots-eq3-clause-at_most g c = sums_fewer (is_most c.args.rivals.now) 3 c.args.pots c.args.values.now c.compare-then-pots-eq3.result.at_most (let few : c.args.pots ≤ 3 = (let t = c.if-pots-eq3.true in omega arith) in few) c.compare-then-pots-eq3.ensures.at_most

pub returns-then-pots-eq3-clause-at_least : goal.returns-then-pots-eq3-clause-at_least
returns-then-pots-eq3-clause-at_least g c = sums_fewer (is_least c.args.rivals.now) 3 c.args.pots c.args.values.now c.compare-then-pots-eq3.result.at_least (let few : c.args.pots ≤ 3 = (let t = c.if-pots-eq3.true in omega arith) in few) c.compare-then-pots-eq3.ensures.at_least

pub returns-clause-at_most : goal.returns-clause-at_most
returns-clause-at_most g c = sums_fewer (is_most c.args.rivals.now) 10 c.args.pots c.args.values.now c.compare-2.result.at_most c.requires.pots c.compare-2.ensures.at_most

pub returns-clause-at_least : goal.returns-clause-at_least
returns-clause-at_least g c = sums_fewer (is_least c.args.rivals.now) 10 c.args.pots c.args.values.now c.compare-2.result.at_least c.requires.pots c.compare-2.ensures.at_least
