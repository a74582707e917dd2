use Rattle.std.proofs.Common.{◌≡◌, ◌<◌, ℕ, true, length}
use Rattle.showdown_tally.specs.Tallies.{runouts_after}
use Rattle.job_blocks.specs.Blocks.{blocks_of}
use Rattle.tally_book.specs.Pages.{is_marked}
use Rattle.steal_pool.proofs.alone.count_alone.Given as goal

-- the blocks before this one are marked
abbrev pub invariant-loop-block : goal.invariant-loop-block
invariant-loop-block g l = (length l.book.marks ≡ blocks_of (length (runouts_after g.N.Naming.deal.state))) × (l.whole.parts ≡ g.N.Ledger.parts) × ((b : ℕ) → b < l.block → is_marked l.book b ≡ true)
