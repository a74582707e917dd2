use Rattle.std.proofs.Common.{[], ◌∷◌, ◌++◌, arith, refl, length-append}
use Rattle.card_sets.specs.State.{state_of}
use Rattle.runout_ranges.specs.Shapes.{runouts_of}
use Rattle.runout_ranges.specs.Walks.{HasMember-first, HasMember-next}
use Rattle.showdown_tally.specs.CountLaws.{Counts-none, Counts-more, Fits-few, HasMember-after}
use Rattle.showdown_tally.specs.Deals.{deal_of}
use Rattle.call_rows.proofs.rows.settling.settled.Goals as goal

pub loop-count-init : goal.loop-count-init
loop-count-init g c = record {
  walk = HasMember-first (runouts_of c.args.shape.now) c.first_runout.new.out c.first_runout.ensures;
  counted = ([], refl, Counts-none (deal_of c.args.table.now) c.zero-tally.result c.zero-tally.ensures.runouts c.zero-tally.ensures.cells c.zero-tally.ensures.units);
  steps = omega (arith, c.zero-tally.ensures.runouts);
}

pub settle_runout-requires-clause-runout : goal.settle_runout-requires-clause-runout
settle_runout-requires-clause-runout g c = HasMember-after (state_of c.args.table.now.known) c.args.shape.now c.loop-count.runout c.requires.shape c.loop-count.invariant.walk

pub settle_runout-requires-clause-fits : goal.settle_runout-requires-clause-fits
settle_runout-requires-clause-fits g c =
    let counted = c.loop-count.invariant.counted in
    Fits-few (deal_of c.args.table.now) counted.0 c.loop-count.runout c.loop-count.tally counted.2 (omega (arith, counted.1))

pub loop-count-preserved : goal.loop-count-preserved
loop-count-preserved g c =
    let counted = c.loop-count.invariant.counted in
    record {
      walk = HasMember-next (runouts_of c.args.shape.now) c.loop-count.runout c.advance.new.r c.loop-count.invariant.walk c.if-not-advance.ensures;
      counted = (
        counted.0 ++ c.loop-count.runout ∷ [],
        omega (arith, counted.1, length-append counted.0 (c.loop-count.runout ∷ [])),
        Counts-more (deal_of c.args.table.now) counted.0 c.loop-count.runout c.loop-count.tally c.settle_runout.new.tally counted.2 c.settle_runout.ensures.adds,
      );
      steps = omega (arith, c.loop-count.invariant.steps, c.settle_runout.ensures.steps, c.settle_runout.ensures.adds.runouts);
    }
