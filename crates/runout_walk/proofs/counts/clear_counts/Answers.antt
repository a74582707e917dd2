use Rattle.std.proofs.Common.{◌≡◌, ◌<◌, ◌∙◌, arith, refl, true}
use Rattle.std.specs.Prelude.{nat_lt}
use Rattle.runout_walk.proofs.OneRunoutMore.{length-pots, more_cleared}
use Rattle.runout_walk.proofs.counts.clear_counts.Goals as goal

pub loop-pot-preserved : goal.loop-pot-preserved
loop-pot-preserved c = record {
  far = more_cleared c.args.table.now.known.game c.loop-pot.pot c.args.counts.now c.loop-pot.counts c.clear_side.new.counts c.clear_side-in-loop-pot.new.counts c.loop-pot.invariant.far c.clear_side.ensures.counts c.clear_side-in-loop-pot.ensures.counts;
  same = c.clear_side-in-loop-pot.ensures.places ∙ c.clear_side.ensures.places ∙ c.loop-pot.invariant.same;
}

pub clear_side-requires : goal.clear_side-requires
clear_side-requires c =
    let size = length-pots c.args.table.now c.ten_pots.ensures in
    omega (arith, size, c.requires, c.loop-pot.invariant.same, c.loop-pot-test.true)

pub clear_side-requires-in-loop-pot : goal.clear_side-requires-in-loop-pot
clear_side-requires-in-loop-pot c =
    let size = length-pots c.args.table.now c.ten_pots.ensures in
    omega (arith, size, c.requires, c.loop-pot.invariant.same, c.loop-pot-test.true, c.clear_side.ensures.places)

pub returns-clause-none : goal.returns-clause-none
returns-clause-none c = λ pot place side l has m.
    let size = length-pots c.args.table.now c.ten_pots.ensures in
    let end : c.loop-pot.pot ≡ c.args.table.now.pots = omega (arith, c.loop-pot-test.false, c.loop-pot.auto.pot-end) in
    let inside : pot < c.loop-pot.pot = omega (arith, size, end, l) in
    let below : nat_lt pot c.loop-pot.pot ≡ true = grind arith in
    c.loop-pot.invariant.far pot place side ∙ rw (has, below) refl
