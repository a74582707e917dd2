use Rattle.std.proofs.Common.{◌≡◌, ◌+◌, ◌<◌, ℕ, length, ap, sym, ◌∙◌, subst}
use Rattle.card_sets.specs.State.{state_of}
use Rattle.showdown_tally.specs.Deals.{deal_of}
use Rattle.showdown_tally.specs.Tallies.{Counts, runouts_after}
use Rattle.job_blocks.specs.Blocks.{block_of}
use Rattle.job_blocks.proofs.CallerLemmas.{one_block, some_blocks, some_runouts}
use Rattle.equity_job.proofs.counting.count_blocks.Goals as goal

pub fill_block-requires : goal.fill_block-requires
fill_block-requires g c =
    let some = some_runouts (state_of c.args.job.now.table.known) c.args.job.now.shape c.args.job.now.shaped c.rising.ensures.rising c.args.job.now.shape.enough in
    some_blocks (length (runouts_after (state_of c.args.job.now.table.known))) some

pub returns-then-blocks-eq1-clause-counts : goal.returns-then-blocks-eq1-clause-counts
returns-then-blocks-eq1-clause-counts g c =
    let all = runouts_after (state_of c.args.job.now.table.known) in
    subst (λ l. Counts (deal_of c.args.job.now.table) l c.fill_block.new.tally) (one_block all c.blocks-2.result c.blocks-2.ensures c.if-blocks-eq1.true) c.fill_block.ensures.counts

pub returns-then-blocks-eq1-clause-steps : goal.returns-then-blocks-eq1-clause-steps
returns-then-blocks-eq1-clause-steps g c =
    let all = runouts_after (state_of c.args.job.now.table.known) in
    c.fill_block.ensures.steps ∙ ap (λ l. c.args.steps.now + length l) (one_block all c.blocks-2.result c.blocks-2.ensures c.if-blocks-eq1.true)

pub returns-clause-some : goal.returns-clause-some
returns-clause-some g c =
    let some = some_runouts (state_of c.args.job.now.table.known) c.args.job.now.shape c.args.job.now.shaped c.rising.ensures.rising c.args.job.now.shape.enough in
    let P : ℕ → Type 0 = λ n. 0 < n in
    subst P (sym c.add_others.ensures.counts.runouts) some

pub returns-then-blocks-eq1-clause-some : goal.returns-then-blocks-eq1-clause-some
returns-then-blocks-eq1-clause-some g c =
    let all = runouts_after (state_of c.args.job.now.table.known) in
    let some = some_runouts (state_of c.args.job.now.table.known) c.args.job.now.shape c.args.job.now.shaped c.rising.ensures.rising c.args.job.now.shape.enough in
    let whole : length (block_of all 0) ≡ length all = ap length (one_block all c.blocks-2.result c.blocks-2.ensures c.if-blocks-eq1.true) in
    let P : ℕ → Type 0 = λ n. 0 < n in
    subst P (sym (c.fill_block.ensures.counts.runouts ∙ whole)) some
