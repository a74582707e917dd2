-- What a worker has taken from a deque.
use Rattle.std.specs.Prelude.{◌≡◌, ℕ, ◌<◌, ◌≤◌, ◌%◌, ◌==◌, Bool, true, false, if◌then◌else◌, List, [], ◌∷◌, ◌++◌, filter, length, replicate, vec_capacity}
use Rattle.std.specs.List.{range_with_len, list_any}
use Rattle.worker_seats.specs.Claims.{WasEmpty}
use Rattle.worker_seats.specs.Reaches.{claim_of, IsOpen}
use Rattle.worker_seats.specs.declared.lanes.Lane.{Lane}
use Rattle.worker_seats.specs.declared.lanes.Got.{Got}
use Rattle.worker_seats.specs.declared.lanes.Got.TheVariants.{Block, End, Nothing}

-- the blocks for the deque of this number, in rising order
abbrev pub blocks_to : ℕ → ℕ → ℕ → List ℕ
blocks_to workers blocks deque = filter (λ b. b % workers == deque) (range_with_len 0 blocks)

-- what is pushed there: these, and an end mark for each worker
abbrev pub pushed_to : ℕ → ℕ → ℕ → List ℕ
pushed_to workers blocks deque = blocks_to workers blocks deque ++ replicate workers blocks

-- what was taken, with the end mark where there was one
abbrev pub noted : ℕ → List ℕ → Bool → List ℕ
noted blocks taken ended = taken ++ (if ended then blocks ∷ [] else [])

-- whether a block is in a list
abbrev pub is_in : ℕ → List ℕ → Bool
is_in b blocks = list_any (λ x. b == x) blocks

module _ {N : Type 0} where
  -- a worker's lane to the deque of a number: its pass stands for the worker alone, and it shows what was taken with it
  pub record IsLane (workers blocks deque : ℕ) (lane : Lane N) : Type 0 where
    pub open_way : IsOpen lane.reach
    pub one : (claim_of lane.reach).stands_for ≡ 1
    pub pushed : (claim_of lane.reach).pushed ≡ pushed_to workers blocks deque
    pub taken : (claim_of lane.reach).taken ≡ noted blocks lane.taken.items lane.ended
    pub room : length (pushed_to workers blocks deque) ≤ vec_capacity lane.taken

  -- a worker's lane to some deque
  abbrev pub IsALane : ℕ → ℕ → Lane N → Type 0
  IsALane workers blocks lane = (deque : ℕ) × IsLane workers blocks deque lane

  -- to whichever deque it is a lane, it still is
  abbrev pub StaysLane : ℕ → ℕ → Lane N → Lane N → Type 0
  StaysLane workers blocks old new = (deque : ℕ) → IsLane workers blocks deque old → IsLane workers blocks deque new

  -- what a take changes; nothing is taken only where the deque was empty at one moment
  abbrev pub Gets : Got → ℕ → ℕ → Lane N → Lane N → Type 0
  Gets (Block x) workers blocks old new = (x < blocks) × (new.taken.items ≡ old.taken.items ++ x ∷ []) × (new.ended ≡ false)
  Gets End workers blocks old new = (new.taken.items ≡ old.taken.items) × (new.ended ≡ true)
  Gets Nothing workers blocks old new = (new.taken.items ≡ old.taken.items) × (new.ended ≡ false) × WasEmpty workers (claim_of old.reach)
