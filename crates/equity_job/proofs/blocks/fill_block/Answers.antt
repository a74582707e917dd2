use Rattle.std.proofs.Common.{◌≡◌, ℕ, subst}
use Rattle.showdown_tally.specs.declared.tally.Tally.{Tally}
use Rattle.job_blocks.specs.declared.jobs.Job.{Job}
use Rattle.equity_job.specs.CountedBlocks.{FillsBlock}
use Rattle.equity_job.specs.declared.span.Span.{Span}
use Rattle.equity_job.proofs.blocks.fill_block.Goals as goal

of_block : (span : Span) (job : Job) (number : ℕ) (tally : Tally) (before after : ℕ) → span.job.now ≡ job → span.number ≡ number → FillsBlock span.job.now span.number tally before after → FillsBlock job number tally before after
of_block span job number tally before after same is fills =
    let J : Job → Type 0 = λ it. FillsBlock it span.number tally before after in
    let N : ℕ → Type 0 = λ n. FillsBlock job n tally before after in
    subst N is (subst J same fills)

pub returns-clause-counts : goal.returns-clause-counts
returns-clause-counts g c = (of_block c.of-span.result c.args.job.now c.args.block c.fill_without.new.tally c.args.steps.now c.fill_without.new.steps c.of-span.ensures.job c.of-span.ensures.number c.fill_without.ensures).counts

pub returns-clause-steps : goal.returns-clause-steps
returns-clause-steps g c = (of_block c.of-span.result c.args.job.now c.args.block c.fill_without.new.tally c.args.steps.now c.fill_without.new.steps c.of-span.ensures.job c.of-span.ensures.number c.fill_without.ensures).steps
