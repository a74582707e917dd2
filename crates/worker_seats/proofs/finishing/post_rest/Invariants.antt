use Rattle.std.proofs.Common.{◌≡◌, ◌+◌, ◌<◌, ◌≤◌, ℕ, true, length}
use Rattle.showdown_tally.specs.Tallies.{runouts_after}
use Rattle.job_blocks.specs.Blocks.{blocks_of}
use Rattle.tally_book.specs.Pages.{is_marked}
use Rattle.worker_seats.proofs.finishing.post_rest.Given as goal

-- the blocks before this one are marked, and each of the caller's own posts is in the spare part
abbrev pub invariant-loop-block : goal.invariant-loop-block
invariant-loop-block g l = (length l.book.marks ≡ blocks_of (length (runouts_after g.N.Naming.deal.state))) × ((b : ℕ) → b < l.block → is_marked l.book b ≡ true)
    × (l.spare.parts ≡ l.fn.spare.parts) × (l.spare.amount ≡ l.fn.spare.amount + l.own) × (l.own ≤ l.block) × (l.desk.part ≡ l.fn.desk.part)
