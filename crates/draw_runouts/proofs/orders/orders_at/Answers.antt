use Rattle.std.proofs.Common.{arith}
use Rattle.draw_runouts.proofs.DrawOrders.{ThreeOf, three_of}
use Rattle.std.specs.Prelude.{slice_index}
use Rattle.draw_runouts.proofs.orders.orders_at.Goals as goal

pub orders_of-requires-clause-most : goal.orders_of-requires-clause-most
orders_of-requires-clause-most c =
    let three : ThreeOf c.args.rivals.now c.args.at (slice_index c.args.sums.now.at_most c.args.at) (slice_index c.args.sums.now.at_least c.args.at) c.args.values.now = three_of c.args.rivals.now c.args.at (slice_index c.args.sums.now.at_most c.args.at) (slice_index c.args.sums.now.at_least c.args.at) c.args.values.now c.requires.at_most c.requires.at_least in
    let b = three.below in let e = three.equal in let a = three.above in omega (arith, b, e, a)

pub orders_of-requires-clause-least : goal.orders_of-requires-clause-least
orders_of-requires-clause-least c =
    let three : ThreeOf c.args.rivals.now c.args.at (slice_index c.args.sums.now.at_most c.args.at) (slice_index c.args.sums.now.at_least c.args.at) c.args.values.now = three_of c.args.rivals.now c.args.at (slice_index c.args.sums.now.at_most c.args.at) (slice_index c.args.sums.now.at_least c.args.at) c.args.values.now c.requires.at_most c.requires.at_least in
    let b = three.below in let e = three.equal in let a = three.above in omega (arith, b, e, a)

pub orders_of-requires-clause-each : goal.orders_of-requires-clause-each
orders_of-requires-clause-each c =
    let three : ThreeOf c.args.rivals.now c.args.at (slice_index c.args.sums.now.at_most c.args.at) (slice_index c.args.sums.now.at_least c.args.at) c.args.values.now = three_of c.args.rivals.now c.args.at (slice_index c.args.sums.now.at_most c.args.at) (slice_index c.args.sums.now.at_least c.args.at) c.args.values.now c.requires.at_most c.requires.at_least in
    let b = three.below in let e = three.equal in let a = three.above in omega (arith, b, e, a)

pub returns-clause-below : goal.returns-clause-below
returns-clause-below c =
    let three : ThreeOf c.args.rivals.now c.args.at (slice_index c.args.sums.now.at_most c.args.at) (slice_index c.args.sums.now.at_least c.args.at) c.args.values.now = three_of c.args.rivals.now c.args.at (slice_index c.args.sums.now.at_most c.args.at) (slice_index c.args.sums.now.at_least c.args.at) c.args.values.now c.requires.at_most c.requires.at_least in
    let b = three.below in let e = three.equal in let a = three.above in (let x = c.orders_of.ensures.below in let y = c.orders_of.ensures.above in let z = c.orders_of.ensures.all in omega (arith, b, e, a, x, y, z))

pub returns-clause-equal : goal.returns-clause-equal
returns-clause-equal c =
    let three : ThreeOf c.args.rivals.now c.args.at (slice_index c.args.sums.now.at_most c.args.at) (slice_index c.args.sums.now.at_least c.args.at) c.args.values.now = three_of c.args.rivals.now c.args.at (slice_index c.args.sums.now.at_most c.args.at) (slice_index c.args.sums.now.at_least c.args.at) c.args.values.now c.requires.at_most c.requires.at_least in
    let b = three.below in let e = three.equal in let a = three.above in (let x = c.orders_of.ensures.below in let y = c.orders_of.ensures.above in let z = c.orders_of.ensures.all in omega (arith, b, e, a, x, y, z))

pub returns-clause-above : goal.returns-clause-above
returns-clause-above c =
    let three : ThreeOf c.args.rivals.now c.args.at (slice_index c.args.sums.now.at_most c.args.at) (slice_index c.args.sums.now.at_least c.args.at) c.args.values.now = three_of c.args.rivals.now c.args.at (slice_index c.args.sums.now.at_most c.args.at) (slice_index c.args.sums.now.at_least c.args.at) c.args.values.now c.requires.at_most c.requires.at_least in
    let b = three.below in let e = three.equal in let a = three.above in (let x = c.orders_of.ensures.below in let y = c.orders_of.ensures.above in let z = c.orders_of.ensures.all in omega (arith, b, e, a, x, y, z))
