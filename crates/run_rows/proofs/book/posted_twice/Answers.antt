use Rattle.std.proofs.Common.{◌≡◌, ℕ, List, length, arith, rules, sym, subst}
use Rattle.card_sets.specs.State.{state_of}
use Rattle.showdown_tally.specs.Deals.{deal_of}
use Rattle.showdown_tally.specs.Tallies.{Counts, runouts_after}
use Rattle.job_blocks.specs.Blocks.{block_of, blocks_of}
use Rattle.job_blocks.proofs.CallerLemmas.{blocks-all, enough_below}
use Rattle.run_rows.proofs.book.posted_twice.Goals as goal

-- a listing of one block is that block
only_block : (all : List (List (List ℕ))) → blocks_of (length all) ≡ 1 → all ≡ block_of all 0
only_block all one = sym (blocks-all all 1 (enough_below (length all) 1 1 (sym one) (omega arith)))

pub post_twice-requires-clause-tally : goal.post_twice-requires-clause-tally
post_twice-requires-clause-tally c =
    subst (λ listed. Counts (deal_of c.args.job.now.table) listed c.args.tally.now) (only_block (runouts_after (state_of c.args.job.now.table.known)) (search rules)) c.requires
