use Rattle.std.proofs.Common.{ℕ, List, refl, arith}
use Rattle.std.specs.Prelude.{slice_index}
use Rattle.draw_runouts.specs.LastHand.{is_least, is_most}
use Rattle.draw_runouts.proofs.DrawOrders.{sums_all, sums_more, sums_room}
use Rattle.draw_runouts.proofs.orders.compare.Goals as goal

pub add_number-requires-clause-at_most : goal.add_number-requires-clause-at_most
add_number-requires-clause-at_most g c = sums_room (is_most c.args.rivals.now) c.args.pots c.args.values.now c.loop-value.value-index c.loop-value.at_most c.requires.pots c.loop-value-test.true c.requires.few c.loop-value.invariant.at_most

pub add_number-requires-clause-at_least : goal.add_number-requires-clause-at_least
add_number-requires-clause-at_least g c = sums_room (is_least c.args.rivals.now) c.args.pots c.args.values.now c.loop-value.value-index c.loop-value.at_least c.requires.pots c.loop-value-test.true c.requires.few c.loop-value.invariant.at_least

pub loop-value-preserved : goal.loop-value-preserved
loop-value-preserved g c =
    let was = c.loop-value.invariant in
    let values : List ℕ = c.args.values.now in
    let i : ℕ = c.loop-value.value-index in
    record {
      at_most = sums_more (is_most c.args.rivals.now) c.args.pots values i (slice_index values i) c.loop-value.at_most c.add_number.new.at_most c.loop-value-test.true refl was.at_most c.add_number.ensures.at_most;
      at_least = sums_more (is_least c.args.rivals.now) c.args.pots values i (slice_index values i) c.loop-value.at_least c.add_number.new.at_least c.loop-value-test.true refl was.at_least c.add_number.ensures.at_least;
      steps = (let s = was.steps in omega (arith, c.tick.ensures));
    }

pub returns-clause-at_most : goal.returns-clause-at_most
returns-clause-at_most g c = sums_all (is_most c.args.rivals.now) c.args.pots c.args.values.now c.loop-value.value-index c.loop-value.at_most c.loop-value-test.false c.loop-value.invariant.at_most

pub returns-clause-at_least : goal.returns-clause-at_least
returns-clause-at_least g c = sums_all (is_least c.args.rivals.now) c.args.pots c.args.values.now c.loop-value.value-index c.loop-value.at_least c.loop-value-test.false c.loop-value.invariant.at_least
