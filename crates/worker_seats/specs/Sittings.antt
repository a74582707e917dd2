-- What all seats together are seen as.
use Rattle.std.specs.Prelude.{◌≡◌, ℕ, ◌+◌, ◌<◌, ◌≤◌, Bool, true, false, List, [], length, map, slice_index_or}
use Rattle.std.specs.List.{sum_by, list_any, range_with_len}
use Rattle.tally_book.specs.Parts.{Hand, is_handed}
use Rattle.tally_book.specs.declared.limits.TheConstants.{BLOCKS_MAX}
use Rattle.worker_seats.specs.Claims.{one_at, times}
use Rattle.worker_seats.specs.Lanes.{blocks_to, pushed_to, is_in}
use Rattle.worker_seats.specs.Joined.{notes_of, pushed_at, HasTold, IsStarted}
use Rattle.worker_seats.specs.declared.lanes.Lane.{Lane}
use Rattle.worker_seats.specs.declared.seat.Seat.{Seat}

-- whether the work is done; for each deque what was pushed; for each worker and deque the blocks taken and whether there was an end mark; for each worker its part in the book
pub record Sitting : Type 0 where
  pub worked : Bool
  pub pushed : List (List ℕ)
  pub taken : List (List (List ℕ))
  pub ended : List (List Bool)
  pub hands : List Hand

-- what was pushed to a deque
abbrev pub pushed_on : Sitting → ℕ → List ℕ
pushed_on sitting deque = slice_index_or sitting.pushed deque []

-- the blocks that a worker took from a deque, in order
abbrev pub taken_by : Sitting → ℕ → ℕ → List ℕ
taken_by sitting worker deque = slice_index_or (slice_index_or sitting.taken worker []) deque []

-- whether it took an end mark there
abbrev pub has_ended : Sitting → ℕ → ℕ → Bool
has_ended sitting worker deque = slice_index_or (slice_index_or sitting.ended worker []) deque false

-- what it handed in
abbrev pub hand_of : Sitting → ℕ → Hand
hand_of sitting worker = slice_index_or sitting.hands worker (record { parts = 0; amount = 0; words = [] })

-- nothing was taken or handed in. To each deque its blocks were pushed, in rising order, and an end mark for each worker
pub record IsFreshSitting (workers blocks : ℕ) (sitting : Sitting) : Type 0 where
  pub worked : sitting.worked ≡ false
  pub pushed : (deque : ℕ) → deque < workers → pushed_on sitting deque ≡ pushed_to workers blocks deque
  pub taken : (worker deque : ℕ) → worker < workers → deque < workers → (taken_by sitting worker deque ≡ []) × (has_ended sitting worker deque ≡ false)
  pub hands : (worker : ℕ) → worker < workers → ((hand_of sitting worker).amount ≡ 0) × ((block : ℕ) → block < BLOCKS_MAX → is_handed (hand_of sitting worker) block ≡ false)

-- what all workers took from a deque, weighed
abbrev pub taken_weight : (ℕ → ℕ) → ℕ → Sitting → ℕ
taken_weight weight deque sitting = sum_by (λ taken. sum_by weight (slice_index_or taken deque [])) sitting.taken

-- how often all workers took a block from the deques below a number
abbrev pub times_taken : ℕ → ℕ → Sitting → ℕ
times_taken deques block sitting = sum_by (λ deque. taken_weight (one_at block) deque sitting) (range_with_len 0 deques)

-- what the workers took from each deque is the blocks that were pushed there, each once, in numbers and however they are weighed. Each took an end mark from each, and handed in what it took
pub record IsShared (workers blocks : ℕ) (old new : Sitting) : Type 0 where
  pub worked : new.worked ≡ true
  pub pushed : (deque : ℕ) → deque < workers → pushed_on new deque ≡ pushed_on old deque
  pub once : (deque block : ℕ) → deque < workers → block < blocks → taken_weight (one_at block) deque new ≡ times block (pushed_on new deque)
  pub weighed : (deque : ℕ) (weight : ℕ → ℕ) → deque < workers → taken_weight weight deque new ≡ sum_by weight (blocks_to workers blocks deque)
  pub ended : (worker deque : ℕ) → worker < workers → deque < workers → has_ended new worker deque ≡ true
  pub handed : (worker block : ℕ) → worker < workers → block < BLOCKS_MAX → is_handed (hand_of new worker) block ≡ list_any (λ taken. is_in block taken) (slice_index_or new.taken worker [])

module _ {N C : Type 0} where
  abbrev pub ends_of : Seat N C → List Bool
  ends_of seat = map (λ (lane : Lane N). lane.ended) seat.lanes.items

  abbrev pub sitting_of : Bool → List (Seat N C) → Sitting
  sitting_of worked seats = record { worked = worked; pushed = map (pushed_at seats) (range_with_len 0 (length seats)); taken = map notes_of seats; ended = map ends_of seats; hands = map (λ (seat : Seat N C). seat.desk.part) seats }

  -- what seats keep: what they show is what their passes hold, and all parts of the ledger are theirs and the spare one's
  pub record IsSitting (workers blocks parts : ℕ) (worked : Bool) (seats : List (Seat N C)) (spare : Hand) : Type 0 where
    pub few : (0 < workers) × (workers ≤ 16)
    pub count : length seats ≡ workers
    pub sized : (w : ℕ) (x : Seat N C) → w < workers → length (slice_index_or seats w x).lanes.items ≡ workers
    pub told : (deque : ℕ) → deque < workers → HasTold workers blocks deque seats
    pub started : worked ≡ false → IsStarted workers blocks seats
    pub rest : spare.amount ≡ 0
    pub shares : spare.parts + sum_by (λ (seat : Seat N C). seat.desk.part.parts) seats ≡ parts
