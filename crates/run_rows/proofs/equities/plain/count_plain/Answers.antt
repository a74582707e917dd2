use Rattle.std.proofs.Common.{arith}
use Rattle.card_sets.specs.State.{state_of}
use Rattle.runout_ranges.specs.Runouts.{Begins, Follows, Ends}
use Rattle.showdown_tally.specs.Deals.{deal_of}
use Rattle.showdown_tally.specs.Tallies.{runouts_after}
use Rattle.run_rows.proofs.Walked.{of_state, Counts-none, walk_begins, walk_fits, walk_goes_on, walk_counts_all}
use Rattle.run_rows.proofs.equities.plain.count_plain.Goals as goal

pub loop-runout-init : goal.loop-runout-init
loop-runout-init g c =
    walk_begins (deal_of c.args.job.now.table) (runouts_after (state_of c.args.job.now.table.known)) c.first_runout.new.out c.zero-tally.result c.args.steps.now
    (of_state (λ all. Begins all c.first_runout.new.out) (state_of c.args.job.now.table.known) c.args.job.now.shape c.args.job.now.shaped c.first_runout.ensures)
    (Counts-none (deal_of c.args.job.now.table) c.zero-tally.result c.zero-tally.ensures.runouts c.zero-tally.ensures.cells c.zero-tally.ensures.units)

pub settle_runout-requires-clause-fits : goal.settle_runout-requires-clause-fits
settle_runout-requires-clause-fits g c =
    walk_fits (deal_of c.args.job.now.table) (runouts_after (state_of c.args.job.now.table.known)) c.loop-runout.runout c.loop-runout.tally c.args.steps.now c.loop-runout.steps c.loop-runout.invariant
    (let all = c.args.job.now.counted in let few = c.args.job.now.few in omega arith)

pub returns-then-not-advance-clause-counts : goal.returns-then-not-advance-clause-counts
returns-then-not-advance-clause-counts g c =
    walk_counts_all (deal_of c.args.job.now.table) (runouts_after (state_of c.args.job.now.table.known)) c.loop-runout.runout c.loop-runout.tally c.settle_runout.new.tally c.args.steps.now c.loop-runout.steps c.loop-runout.invariant c.settle_runout.ensures.adds
    (of_state (λ all. Ends all c.loop-runout.runout) (state_of c.args.job.now.table.known) c.args.job.now.shape c.args.job.now.shaped c.if-not-advance.ensures.0)

pub loop-runout-preserved : goal.loop-runout-preserved
loop-runout-preserved g c =
    let walk =
    walk_goes_on (deal_of c.args.job.now.table) (runouts_after (state_of c.args.job.now.table.known)) c.loop-runout.runout c.advance.new.r c.loop-runout.tally c.settle_runout.new.tally c.args.steps.now c.loop-runout.steps c.loop-runout.invariant c.settle_runout.ensures.adds
    (of_state (λ all. Follows all c.loop-runout.runout c.advance.new.r) (state_of c.args.job.now.table.known) c.args.job.now.shape c.args.job.now.shaped c.if-not-advance.ensures) in
    rw c.settle_runout.ensures.steps walk
