use Rattle.equity_job.proofs.counting.count_on.Goals as goal

pub returns : goal.returns
returns g c = record { counts = c.count_blocks.ensures.counts; some = c.count_blocks.ensures.some }
