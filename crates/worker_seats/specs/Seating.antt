-- One worker's seat, and all of them.
use Rattle.std.specs.Prelude.{◌≡◌, ℕ, ◌<◌, true, false, List, [], length, slice_index_or}
use Rattle.std.specs.List.{list_any}
use Rattle.tally_book.specs.Parts.{is_handed}
use Rattle.tally_book.specs.declared.limits.TheConstants.{BLOCKS_MAX}
use Rattle.worker_seats.specs.Reaches.{StaysOf}
use Rattle.worker_seats.specs.Lanes.{IsLane, is_in}
use Rattle.worker_seats.specs.declared.lanes.Lane.{Lane}
use Rattle.worker_seats.specs.declared.seat.Seat.{Seat}

module _ {N : Type 0} where
  -- nothing was taken on it
  pub record IsUntouched (lane : Lane N) : Type 0 where
    pub taken : lane.taken.items ≡ []
    pub ended : lane.ended ≡ false

module _ {N C : Type 0} where
  -- a seat from which nothing was taken or posted
  pub record IsFresh (workers blocks : ℕ) (seat : Seat N C) : Type 0 where
    pub count : length seat.lanes.items ≡ workers
    pub lanes : (d : ℕ) (x : Lane N) → d < workers → IsLane workers blocks d (slice_index_or seat.lanes.items d x)
    pub untouched : (d : ℕ) (x : Lane N) → d < workers → IsUntouched (slice_index_or seat.lanes.items d x)
    pub handed : (b : ℕ) → b < BLOCKS_MAX → is_handed seat.desk.part b ≡ false

  -- a seat that has an end mark of each deque: what it took is what it handed in
  pub record HasWorked (workers blocks : ℕ) (old new : Seat N C) : Type 0 where
    pub count : length new.lanes.items ≡ workers
    pub lanes : (d : ℕ) (x : Lane N) → d < workers → IsLane workers blocks d (slice_index_or new.lanes.items d x)
    pub ended : (d : ℕ) (x : Lane N) → d < workers → (slice_index_or new.lanes.items d x).ended ≡ true
    pub stays : (d : ℕ) (x : Lane N) → d < workers → StaysOf (slice_index_or old.lanes.items d x).reach (slice_index_or new.lanes.items d x).reach
    pub handed : (b : ℕ) → b < BLOCKS_MAX → is_handed new.desk.part b ≡ list_any (λ lane. is_in b lane.taken.items) new.lanes.items
    pub parts : new.desk.part.parts ≡ old.desk.part.parts

  abbrev pub AllFresh : ℕ → ℕ → List (Seat N C) → Type 0
  AllFresh workers blocks seats = (w : ℕ) (x : Seat N C) → w < length seats → IsFresh workers blocks (slice_index_or seats w x)

  abbrev pub AllHaveWorked : ℕ → ℕ → List (Seat N C) → List (Seat N C) → Type 0
  AllHaveWorked workers blocks old new = (w : ℕ) (x : Seat N C) → w < length old → HasWorked workers blocks (slice_index_or old w x) (slice_index_or new w x)
