-- The marked blocks of a listing, and what a book states of them.
use Rattle.std.specs.Prelude.{◌≡◌, ◌≤◌, ℕ, ◌+◌, Bool, false, if◌then◌else◌, List, [], ◌∷◌, ◌++◌, length, slice_index_or, count_by}
use Rattle.std.specs.List.{flat_map}
use Rattle.showdown_tally.specs.Cells.{Sums}
use Rattle.showdown_tally.specs.Showdown.{Showdown}
use Rattle.showdown_tally.specs.Tallies.{Counts, runouts_after}
use Rattle.job_blocks.specs.Blocks.{block_of, blocks_of}
use Rattle.runout_ranges.specs.declared.limits.TheConstants.{RUNOUT_MAX}

-- what clauses see of a book: a mark for each block, and the total
pub record Page : Type 0 where
  pub marks : List Bool
  pub total : Sums

-- whether a block is marked
abbrev pub is_marked : Page → ℕ → Bool
is_marked page block = slice_index_or page.marks block false

-- the numbers of the marked blocks; the first mark is that of the given block
abbrev pub marked_from : ℕ → List Bool → List ℕ
marked_from block [] = []
marked_from block (mark ∷ marks) = (if mark then block ∷ [] else []) ++ marked_from (block + 1) marks

-- the runouts of the marked blocks, block by block, each once
abbrev pub marked_of : {X : Type 0} → List X → List Bool → List X
marked_of all marks = flat_map (block_of all) (marked_from 0 marks)

-- what a book of a deal states: it has a mark for each block, the sums of exactly the marked blocks, and one fresh post
-- for each mark
pub record IsPage (deal : Showdown) (marks : List Bool) (total : Sums) (fresh : ℕ) : Type 0 where
  pub blocks : length marks ≡ blocks_of (length (runouts_after deal.state))
  pub few : length (runouts_after deal.state) ≤ RUNOUT_MAX
  pub sums : Counts deal (marked_of (runouts_after deal.state) marks) total
  pub counted : fresh ≡ count_by (λ mark. mark) marks
