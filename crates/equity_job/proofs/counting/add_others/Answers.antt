use Rattle.std.proofs.Common.{◌+◌, ◌≤◌, ℕ, length, ap, ◌∙◌, subst}
use Rattle.card_sets.specs.State.{state_of}
use Rattle.runout_ranges.specs.declared.limits.TheConstants.{RUNOUT_MAX}
use Rattle.showdown_tally.specs.Deals.{deal_of}
use Rattle.showdown_tally.specs.Tallies.{Counts, runouts_after}
use Rattle.job_blocks.specs.Blocks.{block_of, blocks_below}
use Rattle.job_blocks.proofs.CallerLemmas.{blocks-all}
use Rattle.job_blocks.proofs.CallerLemmas.{cells_fit, units_fit, parts_few, more_blocks, length_more_blocks, runouts_fit, steps_more}
use Rattle.job_blocks.proofs.CallerLemmas.{enough_below}
use Rattle.equity_job.proofs.counting.add_others.Goals as goal

pub add-requires-clause-runouts : goal.add-requires-clause-runouts
add-requires-clause-runouts g c =
    let few = c.args.job.now.few in
    let counted = c.args.job.now.counted in
    let P : ℕ → Type 0 = λ n. n ≤ RUNOUT_MAX in
    let all = runouts_after (state_of c.args.job.now.table.known) in
    runouts_fit c.loop-block.total.runouts c.fill_block.new.tally.runouts (length (blocks_below all c.loop-block.block)) (length (block_of all c.loop-block.block)) c.loop-block.invariant.counts.runouts c.fill_block.ensures.counts.runouts
    (parts_few all c.loop-block.block (subst P counted few))

pub add-requires-clause-cells : goal.add-requires-clause-cells
add-requires-clause-cells g c =
    let few = c.args.job.now.few in
    let counted = c.args.job.now.counted in
    let P : ℕ → Type 0 = λ n. n ≤ RUNOUT_MAX in
    cells_fit (deal_of c.args.job.now.table) (blocks_below (runouts_after (state_of c.args.job.now.table.known)) c.loop-block.block) (block_of (runouts_after (state_of c.args.job.now.table.known)) c.loop-block.block) c.loop-block.total c.fill_block.new.tally c.loop-block.invariant.counts c.fill_block.ensures.counts
    (parts_few (runouts_after (state_of c.args.job.now.table.known)) c.loop-block.block (subst P counted few))

pub add-requires-clause-units : goal.add-requires-clause-units
add-requires-clause-units g c =
    let few = c.args.job.now.few in
    let counted = c.args.job.now.counted in
    let P : ℕ → Type 0 = λ n. n ≤ RUNOUT_MAX in
    units_fit (deal_of c.args.job.now.table) (blocks_below (runouts_after (state_of c.args.job.now.table.known)) c.loop-block.block) (block_of (runouts_after (state_of c.args.job.now.table.known)) c.loop-block.block) c.loop-block.total c.fill_block.new.tally c.loop-block.invariant.counts c.fill_block.ensures.counts
    (parts_few (runouts_after (state_of c.args.job.now.table.known)) c.loop-block.block (subst P counted few))

pub loop-block-preserved : goal.loop-block-preserved
loop-block-preserved g c =
    let all = runouts_after (state_of c.args.job.now.table.known) in
    record {
      counts = more_blocks (deal_of c.args.job.now.table) all c.loop-block.block c.loop-block.total c.fill_block.new.tally c.add.new.self c.loop-block.invariant.counts c.fill_block.ensures.counts c.add.ensures;
      steps = length_more_blocks all c.loop-block.block c.args.steps.now (c.fill_block.new.steps + length (blocks_below all 1))
          (steps_more c.fill_block.new.steps c.loop-block.steps (length (blocks_below all 1)) c.args.steps.now (length (blocks_below all c.loop-block.block)) (length (block_of all c.loop-block.block)) c.fill_block.ensures.steps c.loop-block.invariant.steps);
    }

pub returns-clause-counts : goal.returns-clause-counts
returns-clause-counts g c =
    let all = runouts_after (state_of c.args.job.now.table.known) in
    let enough = enough_below (length all) c.loop-block.block c.blocks-block-end.result c.blocks-block-end.ensures c.loop-block-test.false in
    subst (λ l. Counts (deal_of c.args.job.now.table) l c.loop-block.total) (blocks-all all c.loop-block.block enough) c.loop-block.invariant.counts

pub returns-clause-steps : goal.returns-clause-steps
returns-clause-steps g c =
    let all = runouts_after (state_of c.args.job.now.table.known) in
    let enough = enough_below (length all) c.loop-block.block c.blocks-block-end.result c.blocks-block-end.ensures c.loop-block-test.false in
    c.loop-block.invariant.steps ∙ ap (λ l. c.args.steps.now + length l) (blocks-all all c.loop-block.block enough)
