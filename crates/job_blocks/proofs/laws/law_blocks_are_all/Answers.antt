use Rattle.std.proofs.Common.{length}
use Rattle.job_blocks.specs.Blocks.{blocks_of}
use Rattle.job_blocks.proofs.BlockLists.{blocks-all}
use Rattle.job_blocks.proofs.BlockTotals.{enough_blocks}
use Rattle.job_blocks.proofs.laws.law_blocks_are_all.Goals as goal

pub returns : goal.returns
returns c = λ all. blocks-all all (blocks_of (length all)) (enough_blocks (length all))
