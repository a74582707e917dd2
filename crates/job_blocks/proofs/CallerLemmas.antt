-- What the proofs of other crates cite of this one. They cite nothing else of its proofs.

-- Blocks of a listing: each as it stands there, and all of them.
pub use Rattle.job_blocks.proofs.BlockLists.{block_to, blocks-all, length-block_to}
-- The listing of a shape is that of its known state, and the only runout of one in which nobody lacks cards.
pub use Rattle.job_blocks.proofs.OnlyRunout.{of_state, none_lacking, first_member, only_runout, only_block}
-- The sums of two parts of a listing fit, and so do those of one block more.
pub use Rattle.job_blocks.proofs.BlockSums.{cells_fit, units_fit, parts_few, runouts_fit, more_blocks, length_more_blocks, steps_more}
-- The sums of all blocks are those of the listing.
pub use Rattle.job_blocks.proofs.BlockTotals.{enough_below, one_block, some_blocks, sum_flat, all_blocks, ones, some_runouts}
