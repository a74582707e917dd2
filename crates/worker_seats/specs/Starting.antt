-- Seats that are being made, deque after deque.
use Rattle.std.specs.Prelude.{◌≡◌, ℕ, ◌<◌, ◌≤◌, ◌++◌, [], ◌∷◌, List, length, slice_index_or, vec_capacity}
use Rattle.std.specs.Global.{Global}
use Rattle.atomic_blocks.specs.Lent.{RowsId}
use Rattle.tally_book.specs.Parts.{no_blocks}
use Rattle.worker_seats.specs.Reaches.{IsOwn, IsOther}
use Rattle.worker_seats.specs.Lanes.{IsLane}
use Rattle.worker_seats.specs.Seating.{IsUntouched}
use Rattle.worker_seats.specs.declared.reaches.Reach.{Reach}
use Rattle.worker_seats.specs.declared.lanes.Lane.{Lane}
use Rattle.worker_seats.specs.declared.seat.Seat.{Seat}

module _ {N C : Type 0} where
  -- a seat with a way to each deque below `made`, and room for the others
  pub record IsSeated (workers blocks made : ℕ) (seat : Seat N C) : Type 0 where
    pub count : length seat.lanes.items ≡ made
    pub room : workers ≤ vec_capacity seat.lanes
    pub lanes : (d : ℕ) (x : Lane N) → d < made → IsLane workers blocks d (slice_index_or seat.lanes.items d x)
    pub untouched : (d : ℕ) (x : Lane N) → d < made → IsUntouched (slice_index_or seat.lanes.items d x)
    pub part : seat.desk.part ≡ record { parts = 1; amount = 0; words = no_blocks }

  -- one way to each deque below `made` is its owner's
  abbrev pub HasWays : ℕ → ℕ → List (Seat N C) → Type 0
  HasWays workers made seats = (d : ℕ) → d < made → (id : RowsId × Global) × ((w : ℕ) (x : Seat N C) (y : Lane N) → w < workers
      → (w ≡ d → IsOwn id (slice_index_or (slice_index_or seats w x).lanes.items d y).reach) × ((w ≡ d → ⊥) → IsOther id (slice_index_or (slice_index_or seats w x).lanes.items d y).reach))

  pub record IsSeating (workers blocks made : ℕ) (seats : List (Seat N C)) : Type 0 where
    pub count : length seats ≡ workers
    pub each : (w : ℕ) (x : Seat N C) → w < workers → IsSeated workers blocks made (slice_index_or seats w x)
    pub ways : HasWays workers made seats

  -- a seat has one lane more, by this way, with nothing taken and this much room
  pub record HasOneMore (old new : Seat N C) (way : Reach N) (size : ℕ) : Type 0 where
    pub lane : Lane N
    pub lanes : new.lanes.items ≡ old.lanes.items ++ lane ∷ []
    pub reach : lane.reach ≡ way
    pub untouched : IsUntouched lane
    pub room : size ≤ vec_capacity lane.taken
    pub more : vec_capacity new.lanes ≡ vec_capacity old.lanes
    pub part : new.desk.part ≡ old.desk.part

  -- there is one seat more, with no way yet
  pub record HasSeatMore (workers : ℕ) (old new : List (Seat N C)) : Type 0 where
    pub seat : Seat N C
    pub items : new ≡ old ++ seat ∷ []
    pub seated : IsSeated workers 0 0 seat
