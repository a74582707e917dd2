-- Whatever the events and their order are, no block is lost and none is there twice.
use Rattle.std.specs.Prelude.{◌≡◌, ℕ, ◌≤◌, ◌==◌, nat_lt, if◌then◌else◌, List, [], ◌∷◌, ◌++◌, length, take, count_by, IsPermutation, option_to_list}
use Rattle.std.specs.List.{flat_map, range_with_len}
use Rattle.showdown_tally.specs.Showdown.{Showdown}
use Rattle.showdown_tally.specs.Cells.{Sums}
use Rattle.showdown_tally.specs.Tallies.{Counts, runouts_after}
use Rattle.job_blocks.specs.Blocks.{block_of, blocks_of}
use Rattle.steal_core.specs.declared.events.CoreEvent.{CoreEvent}
use Rattle.steal_core.specs.declared.events.CoreEvent.TheVariants.{Push, Pop, Steal, Book}
use Rattle.steal_core.specs.declared.state.State.{State}
use Rattle.steal_core.specs.Machine.{in_range, run}

-- the blocks in all queues
abbrev pub queued : State → List ℕ
queued state = flat_map (λ queue. queue) state.queues

-- the blocks in all hands
abbrev pub in_hands : State → List ℕ
in_hands state = flat_map option_to_list state.held

-- the blocks in queues, hands and the booked list together
abbrev pub every_block : State → List ℕ
every_block state = queued state ++ in_hands state ++ state.booked

-- the blocks of the pushes to workers in range
abbrev pub pushed_by : State → List CoreEvent → List ℕ
pushed_by state [] = []
pushed_by state (Push worker block ∷ events) = (if in_range state worker then block ∷ [] else []) ++ pushed_by state events
pushed_by state (Pop worker ∷ events) = pushed_by state events
pushed_by state (Steal worker victim ∷ events) = pushed_by state events
pushed_by state (Book worker ∷ events) = pushed_by state events

-- the number of blocks of a deal's runouts
abbrev pub deal_blocks : Showdown → ℕ
deal_blocks deal = blocks_of (length (runouts_after deal.state))

-- the hands are empty, nothing is booked, and the blocks in the queues and of the pushes are the numbers below the
-- deal's blocks, each once
pub record IsFair (deal : Showdown) (start : State) (events : List CoreEvent) : Type 0 where
  pub hands : in_hands start ≡ []
  pub booked : start.booked ≡ []
  pub blocks : IsPermutation (range_with_len 0 (deal_blocks deal)) (queued start ++ pushed_by start events)

-- how often a block is in a list
abbrev pub times : ℕ → List ℕ → ℕ
times block blocks = count_by (λ b. b == block) blocks

-- 1 below a number, and otherwise 0
abbrev pub once_below : ℕ → ℕ → ℕ
once_below n x = if nat_lt x n then 1 else 0

-- after each prefix of the events each block of the deal is there at most once, and no other block is; after all events
-- each is there exactly once; if queues and hands are then empty, each is booked exactly once, and the sums of the
-- booked blocks are those of all runouts
pub record IsInterleaved (deal : Showdown) (start : State) (events : List CoreEvent) : Type 0 where
  pub at_most_once : (n block : ℕ) → times block (every_block (run start (take n events))) ≤ once_below (deal_blocks deal) block
  pub exactly_once : (block : ℕ) → times block (every_block (run start events)) ≡ once_below (deal_blocks deal) block
  pub booked_once : queued (run start events) ≡ [] → in_hands (run start events) ≡ [] → (block : ℕ) → times block (run start events).booked ≡ once_below (deal_blocks deal) block
  pub booked_sums : queued (run start events) ≡ [] → in_hands (run start events) ≡ [] → (sums : Sums) → Counts deal (flat_map (block_of (runouts_after deal.state)) (run start events).booked) sums → Counts deal (runouts_after deal.state) sums
