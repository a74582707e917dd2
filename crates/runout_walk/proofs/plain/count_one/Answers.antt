use Rattle.std.proofs.Common.{◌≡◌, ℕ, ◌∙◌, arith, length, refl, subst}
use Rattle.showdown_tally.specs.Deals.{deal_of}
use Rattle.showdown_tally.specs.SideCounts.{count_at}
use Rattle.runout_walk.specs.OneMore.{set_place}
use Rattle.runout_walk.proofs.OneRunoutMore.{IsCounted, all_counted, length-pots, one_counted, set_place-small}
use Rattle.runout_walk.proofs.plain.count_one.Goals as goal

pub loop-pot-preserved : goal.loop-pot-preserved
loop-pot-preserved c = record {
  far = one_counted (deal_of c.args.table.now) c.args.sets.now c.loop-pot.pot c.winners_on-high.result c.winners_on-low.result c.args.counts.now c.loop-pot.counts c.add_one.new.counts (c.winners_on-high.ensures.value c.args.sets.now c.values_on-highs.ensures) (c.winners_on-low.ensures.value c.args.sets.now c.values_on-lows.ensures) c.loop-pot.invariant.far c.add_one.ensures.counts;
  same = c.add_one.ensures.places ∙ c.loop-pot.invariant.same;
}

pub loop-pot-init : goal.loop-pot-init
loop-pot-init c = record {
  far = record { done = λ p at s has l. absurd (omega arith); later = λ p at s has l. refl };
  same = refl;
}

pub add_one-requires-clause-inside : goal.add_one-requires-clause-inside
add_one-requires-clause-inside c =
    let size = length-pots c.args.table.now c.ten_pots.ensures in
    omega (arith, size, c.requires.places, c.loop-pot.invariant.same, c.loop-pot-test.true)

pub add_one-requires-clause-fits : goal.add_one-requires-clause-fits
add_one-requires-clause-fits c = λ s has.
    let size = length-pots c.args.table.now c.ten_pots.ensures in
    let place = set_place s c.winners_on-high.result c.winners_on-low.result in
    let later : count_at c.loop-pot.counts c.loop-pot.pot s (set_place s c.winners_on-high.result c.winners_on-low.result) ≡ count_at c.args.counts.now c.loop-pot.pot s (set_place s c.winners_on-high.result c.winners_on-low.result) =
    c.loop-pot.invariant.far.later c.loop-pot.pot place s has (omega arith) in
    let fits = c.requires.fits c.loop-pot.pot place s (omega (arith, size, c.loop-pot-test.true)) has (set_place-small s c.winners_on-high.result c.winners_on-low.result c.winners_on-high.ensures.small c.winners_on-low.ensures.small) in
    omega (arith, later, fits)

pub returns-clause-counts : goal.returns-clause-counts
returns-clause-counts c =
    let deal = deal_of c.args.table.now in
    let size = length-pots c.args.table.now c.ten_pots.ensures in
    let end : c.loop-pot.pot ≡ length (deal_of c.args.table.now).pots = omega (arith, size, c.loop-pot-test.false, c.loop-pot.auto.pot-end) in
    let P : ℕ → Type 0 = λ n. IsCounted (deal_of c.args.table.now) c.args.sets.now n c.args.counts.now c.loop-pot.counts in
    all_counted deal c.args.sets.now c.args.counts.now c.loop-pot.counts (subst P end c.loop-pot.invariant.far)
