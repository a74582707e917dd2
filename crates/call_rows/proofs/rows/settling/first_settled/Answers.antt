use Rattle.std.proofs.Common.{[], arith}
use Rattle.card_sets.specs.State.{state_of}
use Rattle.runout_ranges.specs.Shapes.{runouts_of}
use Rattle.runout_ranges.specs.Walks.{HasMember-first}
use Rattle.showdown_tally.specs.CountLaws.{Counts-none, Counts-more, Fits-few, HasMember-after, units_small}
use Rattle.showdown_tally.specs.Deals.{deal_of}
use Rattle.call_rows.proofs.rows.settling.first_settled.Goals as goal

pub settle_runout-requires-clause-runout : goal.settle_runout-requires-clause-runout
settle_runout-requires-clause-runout g c =
    HasMember-after (state_of c.args.table.now.known) c.in_ok-shape.shape c.first_runout.new.out c.in_ok-shape.ensures.shape (HasMember-first (runouts_of c.in_ok-shape.shape) c.first_runout.new.out c.first_runout.ensures)

pub settle_runout-requires-clause-fits : goal.settle_runout-requires-clause-fits
settle_runout-requires-clause-fits g c =
    let zero = c.zero-tally.ensures in
    Fits-few (deal_of c.args.table.now) [] c.first_runout.new.out c.zero-tally.result (Counts-none (deal_of c.args.table.now) c.zero-tally.result zero.runouts zero.cells zero.units) (omega arith)

pub returns-clause-few : goal.returns-clause-few
returns-clause-few g c = λ p h a b.
    rw (c.settle_runout.ensures.adds.units p h a b, c.zero-tally.ensures.units p h a b) (omega (arith, units_small (deal_of c.args.table.now) p h c.first_runout.new.out))

pub returns-clause-counts : goal.returns-clause-counts
returns-clause-counts g c =
    let deal = deal_of c.args.table.now in (
      c.first_runout.new.out,
      Counts-more deal [] c.first_runout.new.out c.zero-tally.result c.settle_runout.new.tally
          (Counts-none deal c.zero-tally.result c.zero-tally.ensures.runouts c.zero-tally.ensures.cells c.zero-tally.ensures.units) c.settle_runout.ensures.adds,
    )
