use Rattle.job_blocks.specs.Blocks.{block_of}
use Rattle.equity_job.specs.CountedBlocks.{runouts_of}
use Rattle.equity_job.proofs.blocks.fill_in_rows.Goals as goal

pub returns : goal.returns
returns g c =
    let span = c.args.span.now in
    record {
      counts = c.fill_tally.ensures (block_of (runouts_of span.job.now) span.number) span.size c.count_by_leaf.ensures.right;
      steps = c.count_by_leaf.ensures.steps;
    }
