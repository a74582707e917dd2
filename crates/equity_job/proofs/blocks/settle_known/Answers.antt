use Rattle.std.proofs.Common.{◌+◌, [], length, ap, sym, ◌∙◌, arith, subst}
use Rattle.card_sets.specs.State.{state_of}
use Rattle.runout_ranges.specs.Runouts.{Begins}
use Rattle.showdown_tally.specs.CountLaws.{Counts-none, Counts-more, Fits-few}
use Rattle.showdown_tally.specs.Deals.{deal_of}
use Rattle.showdown_tally.specs.Tallies.{Counts, runouts_after}
use Rattle.job_blocks.proofs.CallerLemmas.{of_state, none_lacking, first_member, only_runout, only_block}
use Rattle.equity_job.specs.CountedBlocks.{runouts_of}
use Rattle.equity_job.proofs.blocks.settle_known.Goals as goal

pub settle_runout-requires-clause-runout : goal.settle_runout-requires-clause-runout
settle_runout-requires-clause-runout g c =
    first_member (runouts_after (state_of c.args.job.now.table.known)) c.first_runout.new.out (of_state (λ all. Begins all c.first_runout.new.out) (state_of c.args.job.now.table.known) c.args.job.now.shape c.args.job.now.shaped c.first_runout.ensures)

pub settle_runout-requires-clause-fits : goal.settle_runout-requires-clause-fits
settle_runout-requires-clause-fits g c =
    Fits-few (deal_of c.args.job.now.table) [] c.first_runout.new.out c.clear.new.self (Counts-none (deal_of c.args.job.now.table) c.clear.new.self c.clear.ensures.runouts c.clear.ensures.cells c.clear.ensures.units) (omega arith)

pub returns : goal.returns
returns g c =
    let all = runouts_of c.args.job.now in
    let begins : Begins all c.first_runout.new.out = of_state (λ all. Begins all c.first_runout.new.out) (state_of c.args.job.now.table.known) c.args.job.now.shape c.args.job.now.shaped c.first_runout.ensures in
    let one = only_runout all c.first_runout.new.out (none_lacking (state_of c.args.job.now.table.known) c.args.job.now.shape c.args.job.now.shaped c.requires.none) begins in
    record {
      counts = subst (λ some. Counts (deal_of c.args.job.now.table) some c.settle_runout.new.tally) (sym (only_block all c.first_runout.new.out c.args.block one c.requires.block))
          (Counts-more (deal_of c.args.job.now.table) [] c.first_runout.new.out c.clear.new.self c.settle_runout.new.tally (Counts-none (deal_of c.args.job.now.table) c.clear.new.self c.clear.ensures.runouts c.clear.ensures.cells c.clear.ensures.units) c.settle_runout.ensures.adds);
      steps = c.settle_runout.ensures.steps ∙ ap (λ l. c.args.steps.now + length l) (sym (only_block all c.first_runout.new.out c.args.block one c.requires.block));
    }
