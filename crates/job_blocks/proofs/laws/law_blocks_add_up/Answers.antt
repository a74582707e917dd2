use Rattle.job_blocks.proofs.BlockTotals.{blocks-add_up}
use Rattle.job_blocks.proofs.laws.law_blocks_add_up.Goals as goal

pub returns : goal.returns
returns c = blocks-add_up
