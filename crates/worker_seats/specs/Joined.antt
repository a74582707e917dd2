-- The passes of a deque, joined.
use Rattle.std.specs.Prelude.{◌≡◌, ℕ, ◌<◌, true, List, [], ◌++◌, ◌+◌, ⊤, length, map, slice_index_or, slice_set}
use Rattle.std.specs.List.{sum_by, list_any}
use Rattle.tally_book.specs.Parts.{is_handed}
use Rattle.tally_book.specs.declared.limits.TheConstants.{BLOCKS_MAX}
use Rattle.worker_seats.specs.Seating.{AllFresh}
use Rattle.std.specs.Global.{Global}
use Rattle.atomic_blocks.specs.Lent.{RowsId}
use Rattle.crossbeam_deque.specs.Handles.{view, IsPassOf}
use Rattle.worker_seats.specs.Claims.{claim}
use Rattle.worker_seats.specs.declared.claims.Claim.{Claim}
use Rattle.worker_seats.specs.Reaches.{claim_of, IsOwn, IsOther}
use Rattle.worker_seats.specs.Lanes.{IsLane, blocks_to, pushed_to, noted, is_in}
use Rattle.worker_seats.specs.declared.reaches.Reach.{Reach}
use Rattle.worker_seats.specs.declared.reaches.Reach.TheVariants.{Own, Other, Left}
use Rattle.worker_seats.specs.declared.lanes.Lane.{Lane}
use Rattle.worker_seats.specs.declared.seat.Seat.{Seat}

module _ {N : Type 0} where
  -- a way that is gone, or that of another worker of this deque
  abbrev pub MayJoin : RowsId × Global → Reach N → Type 0
  MayJoin id (Own owner) = ⊥
  MayJoin id (Other thief pass) = IsPassOf id pass
  MayJoin id Left = ⊤

  -- what is known with the pass of a way too
  abbrev pub joined_claim : Claim → Reach N → Claim
  joined_claim v (Own owner) = v
  joined_claim v (Other thief pass) = claim (v.stands_for + (view pass).stands_for) v.pushed (v.taken ++ (view pass).taken)
  joined_claim v Left = v

  -- a lane whose way is gone
  abbrev pub left_of : Lane N → Lane N
  left_of lane = record { reach = Left; taken = lane.taken; ended = lane.ended }

module _ {N C : Type 0} where
  -- what a seat shows to have taken, deque by deque
  abbrev pub notes_of : Seat N C → List (List ℕ)
  notes_of seat = map (λ (lane : Lane N). lane.taken.items) seat.lanes.items

  abbrev pub taken_at : ℕ → Seat N C → List ℕ
  taken_at deque seat = slice_index_or (notes_of seat) deque []

  -- the same with its end mark, deque by deque
  abbrev pub marks_of : ℕ → Seat N C → List (List ℕ)
  marks_of blocks seat = map (λ (lane : Lane N). noted blocks lane.taken.items lane.ended) seat.lanes.items

  -- what was taken with its passes, or with those that were joined into them
  abbrev pub claims_of : Seat N C → List (List ℕ)
  claims_of seat = map (λ (lane : Lane N). (claim_of lane.reach).taken) seat.lanes.items

  -- what its passes know to be pushed
  abbrev pub pushes_of : Seat N C → List (List ℕ)
  pushes_of seat = map (λ (lane : Lane N). (claim_of lane.reach).pushed) seat.lanes.items

  -- what was pushed to a deque, as its owner knows
  abbrev pub pushed_at : List (Seat N C) → ℕ → List ℕ
  pushed_at seats deque = slice_index_or (slice_index_or (map pushes_of seats) deque []) deque []

  -- what all seats show of a deque is what their passes hold, each once, however it is weighed
  abbrev pub IsTold : ℕ → ℕ → List (Seat N C) → Type 0
  IsTold blocks deque seats = (h : ℕ → ℕ) → sum_by (λ seat. sum_by h (slice_index_or (marks_of blocks seat) deque [])) seats ≡ sum_by (λ seat. sum_by h (slice_index_or (claims_of seat) deque [])) seats

  -- the way to a deque is taken out of a seat
  pub record IsOut (deque : ℕ) (old new : Seat N C) (out : Reach N) : Type 0 where
    pub lanes : (x : Lane N) → new.lanes.items ≡ slice_set old.lanes.items deque (left_of (slice_index_or old.lanes.items deque x))
    pub way : (x : Lane N) → out ≡ (slice_index_or old.lanes.items deque x).reach
    pub part : new.desk.part ≡ old.desk.part

  -- the way of an owner is put back into its seat
  pub record IsBack (deque : ℕ) (old new : Seat N C) (back : Reach N) : Type 0 where
    pub lanes : (x : Lane N) → new.lanes.items ≡ slice_set old.lanes.items deque (record { reach = back; taken = (slice_index_or old.lanes.items deque x).taken; ended = (slice_index_or old.lanes.items deque x).ended })
    pub part : new.desk.part ≡ old.desk.part

  -- a seat's lane to a deque that is to be joined: its own where the numbers are the same
  pub record IsReady (workers blocks deque : ℕ) (id : RowsId × Global) (w : ℕ) (seat : Seat N C) : Type 0 where
    pub count : length seat.lanes.items ≡ workers
    pub lane : (x : Lane N) → IsLane workers blocks deque (slice_index_or seat.lanes.items deque x)
    pub ended : (x : Lane N) → (slice_index_or seat.lanes.items deque x).ended ≡ true
    pub own : (x : Lane N) → w ≡ deque → IsOwn id (slice_index_or seat.lanes.items deque x).reach
    pub other : (x : Lane N) → (w ≡ deque → ⊥) → IsOther id (slice_index_or seat.lanes.items deque x).reach

  abbrev pub IsJoinable : ℕ → ℕ → ℕ → List (Seat N C) → Type 0
  IsJoinable workers blocks deque seats = (id : RowsId × Global) × ((w : ℕ) (x : Seat N C) → w < length seats → IsReady workers blocks deque id w (slice_index_or seats w x))

  -- the lanes to other deques are as they were, and so is the part
  pub record SameBeside (deque : ℕ) (old new : Seat N C) : Type 0 where
    pub count : length new.lanes.items ≡ length old.lanes.items
    pub lanes : (e : ℕ) (y : Lane N) → (e ≡ deque → ⊥) → slice_index_or new.lanes.items e y ≡ slice_index_or old.lanes.items e y
    pub ended : (e : ℕ) (y : Lane N) → (slice_index_or new.lanes.items e y).ended ≡ (slice_index_or old.lanes.items e y).ended
    pub part : new.desk.part ≡ old.desk.part

  -- only ways to this deque are gone, and all that was noted is noted still
  pub record SameNotes (deque : ℕ) (old new : List (Seat N C)) : Type 0 where
    pub count : length new ≡ length old
    pub beside : (w : ℕ) (x : Seat N C) → w < length old → SameBeside deque (slice_index_or old w x) (slice_index_or new w x)
    pub notes : (w : ℕ) (x : Seat N C) → w < length old → notes_of (slice_index_or new w x) ≡ notes_of (slice_index_or old w x)

  -- what the workers took from a deque is what was pushed there, each block once, however they are weighed
  abbrev pub HasAll : ℕ → ℕ → ℕ → List (Seat N C) → Type 0
  HasAll workers blocks deque seats = (h : ℕ → ℕ) → sum_by (λ seat. sum_by h (taken_at deque seat)) seats ≡ sum_by h (blocks_to workers blocks deque)

  -- what seats show stays as it was: what was taken, the end marks and the parts
  pub record ShowsSame (old new : List (Seat N C)) : Type 0 where
    pub count : length new ≡ length old
    pub notes : (w : ℕ) (x : Seat N C) → w < length old → notes_of (slice_index_or new w x) ≡ notes_of (slice_index_or old w x)
    pub ended : (w : ℕ) (x : Seat N C) → w < length old → (e : ℕ) (y : Lane N) → (slice_index_or (slice_index_or new w x).lanes.items e y).ended ≡ (slice_index_or (slice_index_or old w x).lanes.items e y).ended
    pub parts : (w : ℕ) (x : Seat N C) → w < length old → (slice_index_or new w x).desk.part ≡ (slice_index_or old w x).desk.part

  -- seats that may start: nothing was taken, and each deque has one owner, the seat of its number
  pub record IsStarted (workers blocks : ℕ) (seats : List (Seat N C)) : Type 0 where
    pub count : length seats ≡ workers
    pub fresh : AllFresh workers blocks seats
    pub ways : (d : ℕ) → d < workers → (id : RowsId × Global) × ((w : ℕ) (x : Seat N C) (y : Lane N) → w < workers
        → (w ≡ d → IsOwn id (slice_index_or (slice_index_or seats w x).lanes.items d y).reach) × ((w ≡ d → ⊥) → IsOther id (slice_index_or (slice_index_or seats w x).lanes.items d y).reach))

  -- the running deques: what the workers took from each deque is every block pushed there, each once; each has an end mark of each deque; what a worker took is what it handed in
  pub record HasShared (workers blocks : ℕ) (old new : List (Seat N C)) : Type 0 where
    pub count : length new ≡ workers
    pub all : (d : ℕ) → d < workers → HasAll workers blocks d new
    pub ended : (w d : ℕ) (x : Seat N C) (y : Lane N) → w < workers → d < workers → (slice_index_or (slice_index_or new w x).lanes.items d y).ended ≡ true
    pub handed : (w b : ℕ) (x : Seat N C) → w < workers → b < BLOCKS_MAX → is_handed (slice_index_or new w x).desk.part b ≡ list_any (λ taken. is_in b taken) (notes_of (slice_index_or new w x))
    pub parts : (w : ℕ) (x : Seat N C) → w < workers → (slice_index_or new w x).desk.part.parts ≡ (slice_index_or old w x).desk.part.parts

  -- seats of which each deque's passes were joined into its owner's, or none was
  pub record HasTold (workers blocks deque : ℕ) (seats : List (Seat N C)) : Type 0 where
    pub told : IsTold blocks deque seats
    pub pushed : pushed_at seats deque ≡ pushed_to workers blocks deque
