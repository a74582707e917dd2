use Rattle.std.proofs.Common.{◌≤◌, ◌==◌, ℕ, Bool, true, false, cond, arith}
use Rattle.draw_runouts.proofs.orders.put_orders.Goals as goal

at_most : (b : Bool) (n : ℕ) → cond b n 0 ≤ n
at_most true n = omega arith
at_most false n = omega arith

pub add_times-requires-clause-fits : goal.add_times-requires-clause-fits
add_times-requires-clause-fits c = omega (arith, c.requires.fits c.args.below c.requires.below)

pub add_times-requires-2-clause-fits : goal.add_times-requires-2-clause-fits
add_times-requires-2-clause-fits c =
    omega (arith, c.requires.fits c.args.equal c.requires.equal, c.add_times.ensures.counts c.args.equal, at_most (c.args.below == c.args.equal) c.args.orders.below)

pub add_times-requires-3-clause-fits : goal.add_times-requires-3-clause-fits
add_times-requires-3-clause-fits c =
    omega (
      arith,
      c.requires.fits c.args.above c.requires.above,
      c.add_times.ensures.counts c.args.above,
      c.add_times-2.ensures.counts c.args.above,
      at_most (c.args.below == c.args.above) c.args.orders.below,
      at_most (c.args.equal == c.args.above) c.args.orders.equal,
    )

pub returns-clause-counts : goal.returns-clause-counts
returns-clause-counts c = λ place. omega (arith, c.add_times.ensures.counts place, c.add_times-2.ensures.counts place, c.add_times-3.ensures.counts place)
