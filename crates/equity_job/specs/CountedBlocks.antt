-- The runouts of a job, and what the count of one of its blocks comes to.
use Rattle.std.specs.Prelude.{◌≡◌, ℕ, ◌+◌, ◌<◌, List, length}
use Rattle.card_sets.specs.State.{state_of}
use Rattle.showdown_tally.specs.Deals.{deal_of}
use Rattle.showdown_tally.specs.SideCounts.{AreSideCounts}
use Rattle.showdown_tally.specs.Tallies.{Counts, runouts_after}
use Rattle.showdown_tally.specs.declared.tally.Tally.{Tally}
use Rattle.job_blocks.specs.Blocks.{block_of}
use Rattle.job_blocks.specs.declared.jobs.Job.{Job}

-- all runouts of a job, in the order of their listing
abbrev pub runouts_of : Job → List (List (List ℕ))
runouts_of job = runouts_after (state_of job.table.known)

-- the counts are those of a block, in as many rows as before, and each runout took a step
pub record CountsBlock (job : Job) (number : ℕ) (old new : List (List ℕ)) (before after : ℕ) : Type 0 where
  pub right : AreSideCounts (deal_of job.table) (block_of (runouts_of job) number) new
  pub rows : length new ≡ length old
  pub steps : after ≡ before + length (block_of (runouts_of job) number)

-- the tally is that of a block, and each runout took a step
pub record FillsBlock (job : Job) (number : ℕ) (tally : Tally) (before after : ℕ) : Type 0 where
  pub counts : Counts (deal_of job.table) (block_of (runouts_of job) number) tally
  pub steps : after ≡ before + length (block_of (runouts_of job) number)

-- the tally is that of all runouts, and there are some
pub record IsWhole (job : Job) (tally : Tally) : Type 0 where
  pub counts : Counts (deal_of job.table) (runouts_of job) tally
  pub some : 0 < tally.runouts
