use Rattle.job_blocks.proofs.BlockLists.{Counts-join}
use Rattle.job_blocks.proofs.laws.law_block_sums_add.Goals as goal

pub returns : goal.returns
returns c = Counts-join
