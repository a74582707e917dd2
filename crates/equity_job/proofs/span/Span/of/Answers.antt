use Rattle.std.proofs.Common.{◌≡◌, ◌+◌, ◌-◌, ◌*◌, ◌∙◌, sym, ap, length}
use Rattle.std.specs.Prelude.{min}
use Rattle.std.specs.List.{slice_range}
use Rattle.job_blocks.proofs.CallerLemmas.{block_to, length-block_to}
use Rattle.job_blocks.specs.declared.limits.TheConstants.{BLOCK}
use Rattle.equity_job.specs.CountedBlocks.{runouts_of}
use Rattle.equity_job.proofs.span.Span.of.Goals as goal

pub invariant_of-result-clause-block : goal.invariant_of-result-clause-block
invariant_of-result-clause-block c =
    let all = runouts_of c.args.job.now in
    let first : c.from-first.result * BLOCK ≡ c.args.number * BLOCK = ap (λ n. n * BLOCK) c.from-first.ensures in
    let end : c.min-end.result ≡ min (c.args.number * BLOCK + BLOCK) (length all) = c.min-end.ensures ∙ ap (λ n. min (n + BLOCK) c.args.job.now.runouts) first ∙ ap (min (c.args.number * BLOCK + BLOCK)) c.args.job.now.counted in
    ap (λ n. slice_range all n c.min-end.result) first ∙ block_to all c.args.number c.min-end.result end

pub invariant_of-result-clause-size : goal.invariant_of-result-clause-size
invariant_of-result-clause-size c =
    let all = runouts_of c.args.job.now in
    let first : c.from-first.result * BLOCK ≡ c.args.number * BLOCK = ap (λ n. n * BLOCK) c.from-first.ensures in
    let end : c.min-end.result ≡ min (c.args.number * BLOCK + BLOCK) (length all) = c.min-end.ensures ∙ ap (λ n. min (n + BLOCK) c.args.job.now.runouts) first ∙ ap (min (c.args.number * BLOCK + BLOCK)) c.args.job.now.counted in
    length-block_to all c.args.number c.min-end.result end ∙ ap (λ n. c.min-end.result - n) (sym first)
